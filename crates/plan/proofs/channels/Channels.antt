-- One channel.
use mathlib.Core.Path.{◌≡◌, ap, ◌∙◌}
use Prim.Native.Nat.{ℕ, ◌+◌, ◌-◌, ◌*◌, ◌/◌, ◌%◌, ◌≤◌, min}
use native.Mathlib.Omega.{arith}
use native.Mathlib.Nat.{min-le_left}
use borrow.Author.Rules.{rules}
use Rattle.division.specs.Division.{div255}
use Rattle.pixel.specs.Blending.{blended_channel}
use Rattle.plan.specs.Blend.{duo}

pub channel-small : (s fs d fd : ℕ) → blended_channel s fs d fd ≤ 255
unfolding blended_channel
channel-small s fs d fd = min-le_left 255 (div255 (s * fs + d * fd))

pub duo-low : (s fs d fd : ℕ) → duo s fs d fd % 256 ≡ blended_channel (s % 256) fs (d % 256) fd
unfolding duo
duo-low s fs d fd = omega (arith, channel-small (s % 256) fs (d % 256) fd)

pub duo_high : (s fs d fd : ℕ) → duo s fs d fd / 256 ≡ blended_channel (s / 256) fs (d / 256) fd
unfolding duo
duo_high s fs d fd = omega (arith, channel-small (s % 256) fs (d % 256) fd)

-- t / 256 added before the last shift, or t * 256 added and two shifts at once
two_shifts : (t : ℕ) → (t + t * 256) / 65536 ≡ (t + t / 256) / 256
two_shifts t = omega arith

-- the nearest of p / 255, as it is computed in 32 bits
pub nearest : (p : ℕ) → p ≤ 65025 → (p + 128 + (p + 128) * 256 % 4294967296) / 65536 ≡ (p + 127) / 255
nearest p h =
    let whole : (p + 128) * 256 % 4294967296 ≡ (p + 128) * 256 = omega arith in
    ap (λ (n : ℕ). (p + 128 + n) / 65536) whole ∙ two_shifts (p + 128) ∙ search rules

-- 255 less what is left of the complement c after near p
pub kept-is : (c d f : ℕ) → c ≤ 255 → 255 - (c - (d * f + 127) / 255) ≡ blended_channel (255 - c) 255 d f
unfolding blended_channel div255
kept-is c d f h = kept (d * f)
  where
    kept : (p : ℕ) → 255 - (c - (p + 127) / 255) ≡ min 255 (((255 - c) * 255 + p + 127) / 255)
    kept p = search rules

complement : (a b : ℕ) → a ≤ 255 → b ≤ 255 → 65535 - (a + b * 256) ≡ 255 - a + 256 * (255 - b)
complement a b h k = omega arith

pub over-duo : (c d f a b : ℕ) → c ≤ 65535 → a ≡ c % 256 - (d % 256 * f + 127) / 255 → b ≡ c / 256 - (d / 256 * f + 127) / 255 → 65535 - (a + b * 256) ≡ duo (65535 - c) 255 d f
unfolding duo
over-duo c d f a b h e q =
    let l : (65535 - c) % 256 ≡ 255 - c % 256 = omega arith in
    let u : (65535 - c) / 256 ≡ 255 - c / 256 = omega arith in
    complement a b (omega arith) (omega arith)
    ∙ cc (kept-is (c % 256) (d % 256) f (omega arith), kept-is (c / 256) (d / 256) f (omega arith))

pub copied : (s d : ℕ) → s ≤ 255 → blended_channel s 255 d 0 ≡ s
unfolding blended_channel div255
copied s d h = search rules

pub stayed : (s d : ℕ) → d ≤ 255 → blended_channel s 0 d 255 ≡ d
unfolding blended_channel div255
stayed s d h = search rules

pub cleared : (fs d : ℕ) → d ≤ 255 → blended_channel 0 fs d 255 ≡ d
unfolding blended_channel div255
cleared fs d h = search rules

pub emptied : (s d : ℕ) → blended_channel s 0 d 0 ≡ 0
unfolding blended_channel div255
emptied s d = search rules

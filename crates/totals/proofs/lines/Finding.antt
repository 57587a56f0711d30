-- The numbers of a text of totals, found one after another.
use mathlib.Core.Path.{◌≡◌, refl, sym, ap, ◌∙◌}
use mathlib.Core.Bool.{Bool, true, false, false≢true}
use mathlib.Core.List.{List, ◌∷◌, ◌++◌}
use Prim.Native.Nat.{ℕ, ◌+◌, ◌≤◌, ◌<◌}
use native.Mathlib.Omega.{arith}
use native.Mathlib.Numerals.{add-one}
use lib.ListN.{length, get_or, set, take, drop}
use lib.Seq.{drop-drop, drop-append_seam, drop-append-add, take-suc, take-suc-set, take_all}
use Rattle.text.specs.Decimal.{decimal}
use Rattle.text.specs.declared.numerals.Numeral.{Numeral}
use Rattle.text.specs.Numerals.{numeral_from}
use Rattle.text.proofs.numerals.Printed.{numeral_decimal}
use Rattle.totals.specs.declared.Totals.{Totals}
use Rattle.totals.specs.Totals.{largest}
use Rattle.totals.specs.Lines.{label_of, count_lines, totals_text}
use Rattle.totals.specs.Reading.{FourteenCounts, Reads, Finds}
use Rattle.totals.proofs.lines.Lines.{lines-front}

-- the first k numbers are found, and the lines from k on are to come: if the text is that of counts
pub record Going (text counts : List ℕ) (at k : ℕ) (own : List ℕ) : Type 0 where
  pub here : drop at text ≡ count_lines k (drop k own)
  pub found : take k counts ≡ take k own

module _ (text counts own : List ℕ) (at k : ℕ) (O : FourteenCounts own) (below : k < 14) (size : length counts ≡ 14) (G : Going text counts at k own) where
  abbrev count : ℕ
  count = get_or own k 0

  abbrev start : ℕ
  start = at + length (label_of k)

  abbrev others : List ℕ
  others = count_lines (k + 1) (drop (k + 1) own)

  rest-is : drop start text ≡ decimal count ++ (10 ∷ others)
  rest-is =
      sym (drop-drop (length (label_of k)) at text)
      ∙ ap (drop (length (label_of k))) (G.here ∙ lines-front own k (omega (arith, O.size)))
      ∙ drop-append_seam (label_of k) (decimal count ++ (10 ∷ others))

  module _ (n : Numeral) (n-is : n ≡ numeral_from largest 0 start (drop start text)) where
    numeral_is : n ≡ record { value = count; end = start + length (decimal count) }
    numeral_is = n-is ∙ ap (numeral_from largest 0 start) rest-is ∙ numeral_decimal largest start count (10 ∷ others) (O.small k) refl

    value_is : n.value ≡ count
    value_is = ap (λ (m : Numeral). m.value) numeral_is

    after_is : drop (n.end + 1) text ≡ others
    after_is =
        let end : n.end + 1 ≡ start + (length (decimal count) + 1) = omega (arith, ap (λ (m : Numeral). m.end) numeral_is) in
        ap (λ (i : ℕ). drop i text) end
        ∙ sym (drop-drop (length (decimal count) + 1) start text)
        ∙ ap (drop (length (decimal count) + 1)) rest-is
        ∙ drop-append-add (decimal count) (10 ∷ others) 1

    pub going_more : Going text (set counts k n.value) (n.end + 1) (k + 1) own
    going_more = record {
      here = after_is;
      found = rw (add-one, take-suc-set counts k n.value (omega (arith, size)), G.found, value_is) (sym (take-suc own k 0 (omega (arith, O.size))));
    }

pub going_none : (text counts own : List ℕ) → text ≡ count_lines 0 own → Going text counts 0 0 own
going_none text counts own e = record { here = e; found = refl }

pub going_all : (text counts own : List ℕ) (at k : ℕ) → 14 ≤ k → length counts ≡ 14 → FourteenCounts own → Going text counts at k own → counts ≡ own
going_all text counts own at k all size O G = sym (take_all k counts (omega arith)) ∙ G.found ∙ take_all k own (omega (arith, O.size))

-- ---- what is read

module _ (text : List ℕ) (totals : Totals) (F : Finds text totals.counts) (C : FourteenCounts totals.counts) where
  -- the lines are compared with the text
  pub reads_by : (line : List ℕ) (ok : Bool) → line ≡ totals_text totals → (ok ≡ true → line ≡ text) → (line ≡ text → ok ≡ true) → Reads text (record { ok = ok; totals = totals })
  reads_by line ok is then only = record {
    exact = λ e. sym (then e) ∙ is;
    counts = λ e. C;
    back = λ own O e. let same : totals.counts ≡ own.counts = F own.counts O e in (only (is ∙ ap (count_lines 0) same ∙ sym e), ap (λ (xs : List ℕ). record { counts = xs }) same);
  }

pub reads_none : (text : List ℕ) (totals : Totals) → ((own : Totals) → FourteenCounts own.counts → text ≡ totals_text own → ⊥) → Reads text (record { ok = false; totals = totals })
reads_none text totals never = record { exact = λ e. absurd (false≢true e); counts = λ e. absurd (false≢true e); back = λ own O e. absurd (never own O e) }

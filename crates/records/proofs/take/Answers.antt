use mathlib.Core.Path.{◌≡◌, refl, sym, ap, ◌∙◌}
use mathlib.Core.Bool.{false≢true}
use native.Mathlib.Omega.{arith}
use lib.ListN.{length, get_or, take}
use borrow.Author.Tests.{not-true, not-false}
use Rattle.records.specs.declared.Taken.{Taken}
use Rattle.records.proofs.Onward.{nothing-takes, ended-takes, version-takes, ready_enough, enough_both, suffices_by, inside-takes, version-used, exactly_not, exactly_in, exactly_version, exactly_ended, version-none, version-some}
use Rattle.records.proofs.take.Goals as goal

pub returns-then-not-enough : goal.returns-then-not-enough
returns-then-not-enough c =
    let a = c.args in
    let exactly = exactly_not a.edition a.reader a.held.now a.input.now c.nothing_taken.result a.held.now (suffices_by a.edition a.reader a.held.now _ c.room-room.ensures _ (not-true _ c.if-not-enough.true-raw)) c.nothing_taken.ensures refl in (
      omega (arith, ap (λ (t : Taken). t.used) c.nothing_taken.ensures),
      rw c.nothing_taken.ensures tt,
      λ ready. absurd (false≢true (sym (suffices_by a.edition a.reader a.held.now _ c.room-room.ensures _ (not-true _ c.if-not-enough.true-raw)) ∙ ready_enough a.edition a.reader a.held.now ready)),
      exactly.0,
      exactly.1,
    )

pub returns-in-None : goal.returns-in-None
returns-in-None c =
    let a = c.args in
    let none : length a.input.now ≡ 0 = omega (arith, c.in-None.ensures.item) in
    let exactly = exactly_version a.edition a.reader a.held.now a.input.now c.nothing_taken-in-None.result a.held.now (suffices_by a.edition a.reader a.held.now _ c.room-room.ensures _ (not-false _ c.if-not-enough.false-raw)) c.in-Version.is refl (c.nothing_taken-in-None.ensures ∙ sym (version-none a.edition a.reader (take a.reader.buffered a.held.now) a.input.now none)) in (
      omega (arith, ap (λ (t : Taken). t.used) c.nothing_taken-in-None.ensures),
      rw c.nothing_taken-in-None.ensures tt,
      λ ready. nothing-takes a.edition a.reader a.held.now a.input.now c.nothing_taken-in-None.result ready none c.nothing_taken-in-None.ensures,
      exactly.0,
      exactly.1,
    )

pub take_record-requires : goal.take_record-requires
take_record-requires c =
    let a = c.args in
    enough_both a.edition a.reader a.held.now (suffices_by a.edition a.reader a.held.now _ c.room-room.ensures _ (not-false _ c.if-not-enough.false-raw))

pub returns-in-Some : goal.returns-in-Some
returns-in-Some c =
    let a = c.args in
    let some : length a.input.now ≡ 0 → ⊥ = λ e. omega (arith, e, c.in-Some.ensures.item) in
    let v = version-used a.edition c.in-Some.version.now in
    let first : c.in-Some.version.now ≡ get_or a.input.now 0 0 = c.in-Some.ensures.item.4 (omega arith) 0 in
    let exactly = exactly_version a.edition a.reader a.held.now a.input.now c.check_version.result a.held.now (suffices_by a.edition a.reader a.held.now _ c.room-room.ensures _ (not-false _ c.if-not-enough.false-raw)) c.in-Version.is refl (c.check_version.ensures ∙ rw first (sym (version-some a.edition a.reader (take a.reader.buffered a.held.now) a.input.now some))) in (
      omega (arith, ap (λ (t : Taken). t.used) c.check_version.ensures, v.0, some),
      rw c.check_version.ensures (v.1 _),
      λ ready. version-takes a.edition a.reader a.held.now a.input.now c.check_version.result ready c.in-Version.is some (rw first at c.check_version.ensures),
      exactly.0,
      exactly.1,
    )

pub returns-in-Records : goal.returns-in-Records
returns-in-Records c =
    let a = c.args in
    let e = c.take_record.ensures in
    let exactly = exactly_in a.edition a.reader a.held.now a.input.now c.take_record.result _ (suffices_by a.edition a.reader a.held.now _ c.room-room.ensures _ (not-false _ c.if-not-enough.false-raw)) _ c.in-Records.is e.3 e.4 in
    (e.0, e.1, inside-takes a.edition a.reader a.held.now a.input.now c.take_record.result _ c.in-Records.is e.2, exactly.0, exactly.1)

pub returns-in-Ended : goal.returns-in-Ended
returns-in-Ended c =
    let a = c.args in
    let exactly = exactly_ended a.edition a.reader a.held.now a.input.now c.nothing_taken-in-Ended.result a.held.now (suffices_by a.edition a.reader a.held.now _ c.room-room.ensures _ (not-false _ c.if-not-enough.false-raw)) c.in-Ended.is refl c.nothing_taken-in-Ended.ensures in (
      omega (arith, ap (λ (t : Taken). t.used) c.nothing_taken-in-Ended.ensures),
      rw c.nothing_taken-in-Ended.ensures tt,
      λ ready. ended-takes a.edition a.reader a.held.now a.input.now c.nothing_taken-in-Ended.result ready c.in-Ended.is c.nothing_taken-in-Ended.ensures,
      exactly.0,
      exactly.1,
    )

-- Notices on a stream.
use Rattle.std.proofs.Common.{◌≡◌, ◌⊎◌, ◌<◌, inl, inr, arith, ◌∙◌, ◌||◌, ◌++◌, ◌∷◌, ℕ, true, false, nat_lt, Some, codes, refl, ap, Bool, if◌then◌else◌, List, [], Result, Ok, Err, OnOk}
use Rattle.std.proofs.lemmas.Grind.{common_steps}
use Rattle.mysql_conversation.specs.declared.packet_kind.Side.{Side}
use Rattle.mysql_show.specs.Fields.{Said, have_float}
use Rattle.mysql_recorder.specs.declared.entry.Layout.{Layout}
use Rattle.mysql_recorder.specs.declared.entry.Notice.{Notice}
use Rattle.mysql_recorder.specs.Sides.{passed_of}
use Rattle.mysql_recorder.specs.Entries.{notice_text}
use Rattle.mysql_recorder.specs.Steps.{left_of, left_text, skipped_bytes, passed_text}
use Rattle.mysql_recorder.specs.declared.sides.Sides.{Sides}

-- the notice on a stream out of step
pub left_is : (s : Sides) (side : Side) (count : ℕ) → passed_of side s ≡ Some count → s.has_lost || nat_lt 0 count ≡ true → left_text side s ≡ passed_text s (codes "no_resync") side count
left_is s side count is said = ap (λ o. left_of s side o) is ∙ ap (λ b. if b then passed_text s (codes "no_resync") side count else []) said

pub is_told : (b : Bool) (count : ℕ) → (b ≡ true) ⊎ ((b ≡ false) × (0 < count)) → b || nat_lt 0 count ≡ true
is_told true count h = refl
is_told false count (inl h) = absurd (let no : false ≡ true = h in cc)
is_told false count (inr h) = let some = h.1 in grind (arith, common_steps, some)

pub notice_appended : {E : Type 0} (res : Result (Unit {0}) E) (layout : Layout) (r : Notice) (fields : List Said) (exchange : ℕ) (old new : List ℕ) → r.exchange ≡ exchange
    → OnOk res (have_float fields ≡ false → new ≡ old ++ notice_text layout r.side r.exchange r.kind.now fields) → OnOk res (have_float fields ≡ false → new ≡ old ++ notice_text layout r.side exchange r.kind.now fields)
notice_appended (Ok u) layout r fields exchange old new is h = λ none. h none ∙ ap (λ x. old ++ notice_text layout r.side x r.kind.now fields) is
notice_appended (Err e) layout r fields exchange old new is h = tt

pub passed_appended : {E : Type 0} (res : Result (Unit {0}) E) (layout : Layout) (side : Side) (exchange : ℕ) (kind : List ℕ) (field : Said) (count : ℕ) (old new : List ℕ) → field ∷ [] ≡ skipped_bytes count
    → OnOk res (have_float (field ∷ []) ≡ false → new ≡ old ++ notice_text layout side exchange kind (field ∷ [])) → OnOk res (new ≡ old ++ notice_text layout side exchange kind (skipped_bytes count))
passed_appended (Ok u) layout side exchange kind field count old new is h = h (ap have_float is) ∙ ap (λ fields. old ++ notice_text layout side exchange kind fields) is
passed_appended (Err e) layout side exchange kind field count old new is h = tt

-- An unexpected packet.
use Rattle.std.proofs.Common.{◌≡◌, inl, inr, ◌↔◌, IsTrue, ℕ, Bool, true, false, List, [], ◌∷◌, ◌++◌, length, take, min, codes, Result, Ok, Err, OnOk, refl, sym, ap, subst, ◌∙◌}
use Rattle.mysql_conversation.specs.Pipelined.{Numbered}
use Rattle.mysql_conversation.specs.declared.packet_kind_tag.PacketKindTag.{PacketKindTag}
use Rattle.mysql_conversation.specs.declared.pipeline.SessionError.{SessionError}
use Rattle.mysql_show.specs.Fields.{Said, said, Bytes, Word, have_float}
use Rattle.mysql_recorder.specs.declared.entry.Layout.{Layout}
use Rattle.mysql_recorder.specs.declared.entry.Packet.{Packet}
use Rattle.mysql_recorder.specs.Refused.{expected_fields, refused_fields, refusal_text, MayCome, AreExpected}
use Rattle.mysql_recorder.specs.Refusals.{AppendsRefused, Expects}
use Rattle.mysql_recorder.specs.Entries.{AppendsEntry, Entry, entry_as, entry_text}
use Rattle.mysql_recorder.specs.Shown.{AppendsFields}
use Rattle.mysql_observer.specs.declared.observer.Observer.{Observer}

pub expected-append : (a b : List PacketKindTag) → expected_fields (a ++ b) ≡ expected_fields a ++ expected_fields b
expected-append [] b = refl
expected-append (x ∷ a) b = ap (λ fs. expected_fields (x ∷ []) ++ fs) (expected-append a b)

-- the names of two lists
pub expected_both : (items : List Numbered) (all more a b : List PacketKindTag) → AreExpected items all a → AreExpected items more b → AreExpected items (all ++ more) (a ++ b)
expected_both items [] more a b h g = subst (λ xs. AreExpected items more (xs ++ b)) (sym h) g
expected_both items (x ∷ all) more a b (inl h) g = inl (h.0 ++ b, ap (λ xs. xs ++ b) h.1, h.2, expected_both items all more h.0 b h.3 g)
expected_both items (x ∷ all) more a b (inr h) g = inr (h.0, expected_both items all more a b h.1 g)

comes : {P : Type 0} (b : Bool) → (IsTrue b ↔ P) → b ≡ true → P
comes b h e = h.0 e

comes_not : {P : Type 0} (b : Bool) → (IsTrue b ↔ P) → b ≡ false → P → ⊥
comes_not b h e p = let yes : b ≡ true = h.1 p in cc

pub is_expected : (items : List Numbered) (name : PacketKindTag) (b : Bool) → (IsTrue b ↔ MayCome items name) → b ≡ true → AreExpected items (name ∷ []) (name ∷ [])
is_expected items name b h e = inl ([], refl, comes b h e, refl)

pub is_not_expected : (items : List Numbered) (name : PacketKindTag) (b : Bool) → (IsTrue b ↔ MayCome items name) → b ≡ false → AreExpected items (name ∷ []) []
is_not_expected items name b h e = inr (comes_not b h e, refl)

expected_no_float : (names : List PacketKindTag) → have_float (expected_fields names) ≡ false
expected_no_float [] = refl
expected_no_float (name ∷ names) = expected_no_float names

pub refused_no_float : (payload : List ℕ) (why : SessionError) (names : List PacketKindTag) → have_float (refused_fields payload why names) ≡ false
refused_no_float payload why names = expected_no_float names

-- the fields of an unexpected packet
pub refused_fields_are : (none first second last : List Said) (begins refused : Said) (payload : List ℕ) (n : ℕ) (why : SessionError) (names : List PacketKindTag)
    → none ≡ [] → first ≡ none ++ begins ∷ [] → second ≡ first ++ refused ∷ [] → last ≡ second ++ expected_fields names
    → begins ≡ said (codes "begins") (Bytes (take n payload)) → n ≡ min (length payload) 64 → refused ≡ said (codes "refused") (Word (refusal_text why))
    → last ≡ refused_fields payload why names
refused_fields_are none first second last begins refused payload n why names a b c d e f g =
    let two : second ≡ begins ∷ refused ∷ [] = c ∙ ap (λ xs. xs ++ refused ∷ []) (b ∙ ap (λ xs. xs ++ begins ∷ []) a) in
    d ∙ ap (λ xs. xs ++ expected_fields names) two ∙ ap (λ x. x ∷ refused ∷ expected_fields names) (e ∙ ap (λ m. said (codes "begins") (Bytes (take m payload))) f)
    ∙ ap (λ x. said (codes "begins") (Bytes (take (min (length payload) 64) payload)) ∷ x ∷ expected_fields names) g

-- an entry with these fields, which were added to none
pub appends : {E : Type 0} (Are : List Said → Type 0) (r : Result (Unit {0}) E) (layout : Layout) (p : Packet) (none given fields : List Said) (before after : List ℕ)
    → none ≡ [] → (more : List Said) × Are more × (given ≡ none ++ more) → fields ≡ given
    → OnOk r (have_float fields ≡ false → after ≡ before ++ entry_text layout (entry_as p) fields) → OnOk r (AppendsEntry layout (entry_as p) fields before after)
    → OnOk r (AppendsFields Are layout (entry_as p) before after)
appends Are (Ok u) layout p none given fields before after e h is ok shown =
    (fields, subst Are (sym (is ∙ h.2 ∙ ap (λ f. f ++ h.0) e)) h.1, ok, shown)
appends Are (Err x) layout p none given fields before after e h is ok shown = tt

-- the same entry, whose fields are such too
pub appends_as : (These Those : List Said → Type 0) (layout : Layout) (entry : Entry) (a b : List ℕ) → ((fields : List Said) → These fields → Those fields)
    → AppendsFields These layout entry a b → AppendsFields Those layout entry a b
appends_as These Those layout entry a b turns h = (h.0, turns h.0 h.1, h.2, h.3)

pub appends_refused : {E : Type 0} (r : Result (Unit {0}) E) (all : List PacketKindTag) (layout : Layout) (f : Observer) (p : Packet) (why : SessionError) (before after : List ℕ) (fields : List Said) (names : List PacketKindTag)
    → fields ≡ refused_fields p.payload.now why names → Expects f all names
    → OnOk r (have_float fields ≡ false → after ≡ before ++ entry_text layout (entry_as p) fields) → OnOk r (AppendsRefused all layout f (entry_as p) why before after)
appends_refused (Ok u) all layout f p why before after fields names are may_receive ok = (
  names,
  may_receive,
  ok (ap have_float are ∙ refused_no_float p.payload.now why names) ∙ ap (λ fs. before ++ entry_text layout (entry_as p) fs) are,
)
appends_refused (Err e) all layout f p why before after fields names are may_receive ok = tt

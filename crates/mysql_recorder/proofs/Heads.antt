-- How an object begins.
use Rattle.std.proofs.Common.{◌≡◌, ℕ, List, [], ◌∷◌, ◌++◌, false, length, codes, refl, sym, ap, subst, ◌∙◌, append_assoc, OnOk, OnErr, Result, Ok, Err}
use Rattle.mysql_show.specs.Fields.{Said, said, Number, Word, Digits, have_float}
use Rattle.mysql_show.specs.FieldObject.{AppendsObject, object_line}
use Rattle.mysql_show.specs.Appended.{Stays}
use Rattle.mysql_recorder.specs.Entries.{AppendsEntry, Begins, Entry, entry_head, entry_text, notice_head, notice_text, name_of_side}
use Rattle.mysql_recorder.specs.declared.entry.Layout.{Layout}
use Rattle.mysql_recorder.specs.declared.entry.Layout.TheVariants as layout
use Rattle.mysql_recorder.specs.declared.entry.Notice.{Notice}

-- a clause about the value, if there is one, implies another
pub on-ok : {T E : Type 0} {P Q : Type 0} (r : Result T E) → OnOk r P → (P → Q) → OnOk r Q
on-ok (Ok x) p f = f p
on-ok (Err e) p f = tt

-- what is appended after a front, or without one
pub front-begins : {T E : Type 0} (r : Result T E) (front line old mid new : List ℕ) → front ≡ line → mid ≡ old ++ line → OnOk r (Stays mid new) → OnOk r (Begins front old new)
front-begins (Ok x) front line old mid new is e h = (h.0, h.1 ∙ ap (λ t. t ++ h.0) e ∙ append_assoc old line h.0 ∙ ap (λ f. old ++ (f ++ h.0)) (sym is))
front-begins (Err e) front line old mid new is f h = tt

pub stays-begins : {T E : Type 0} (r : Result T E) (front old new : List ℕ) → front ≡ [] → OnOk r (Stays old new) → OnOk r (Begins front old new)
stays-begins (Ok x) front old new is h = (h.0, h.1 ∙ ap (λ f. old ++ (f ++ h.0)) (sym is))
stays-begins (Err e) front old new is h = tt

abbrev pub Wrote : List Said → List Said → (old new : List ℕ) → Type 0
Wrote head fields old new = have_float head ≡ false → have_float fields ≡ false → new ≡ old ++ object_line head fields

pub packet-wrote : (p : Entry) (how : Layout) (head fields : List Said) (old new : List ℕ) → how ≡ layout.Json → head ≡ entry_head p → Wrote head fields old new
    → have_float fields ≡ false → new ≡ old ++ entry_text how p fields
packet-wrote p how head fields old new is same wrote h =
    let line : new ≡ old ++ object_line head fields = wrote (rw same refl) h in
    line ∙ ap (λ hs. old ++ object_line hs fields) same ∙ ap (λ l. old ++ entry_text l p fields) (sym is)

pub notice-wrote : (r : Notice) (how : Layout) (head fields : List Said) (old new : List ℕ) → how ≡ layout.Json → head ≡ notice_head r.side r.exchange r.kind.now → Wrote head fields old new
    → have_float fields ≡ false → new ≡ old ++ notice_text how r.side r.exchange r.kind.now fields
notice-wrote r how head fields old new is same wrote h =
    let line : new ≡ old ++ object_line head fields = wrote (rw same refl) h in
    line ∙ ap (λ hs. old ++ object_line hs fields) same ∙ ap (λ l. old ++ notice_text l r.side r.exchange r.kind.now fields) (sym is)

pub packet-members : (p : Entry) (side sequence exchange kind size payload : Said)
    → side ≡ said (codes "side") (Word (name_of_side p.side)) → sequence ≡ said (codes "sequence") (Number p.sequence) → exchange ≡ said (codes "exchange") (Number p.exchange)
    → kind ≡ said (codes "kind") (Word p.kind) → size ≡ said (codes "size") (Number (length p.payload)) → payload ≡ said (codes "payload") (Digits p.payload)
    → (side ∷ sequence ∷ exchange ∷ kind ∷ size ∷ payload ∷ []) ≡ entry_head p
packet-members p side sequence exchange kind size payload a b c d e f = rw (a, b, c, d, e, f) refl

pub notice-members : (r : Notice) (side exchange kind : Said)
    → side ≡ said (codes "side") (Word (name_of_side r.side)) → exchange ≡ said (codes "exchange") (Number r.exchange) → kind ≡ said (codes "kind") (Word r.kind.now)
    → (side ∷ exchange ∷ kind ∷ []) ≡ notice_head r.side r.exchange r.kind.now
notice-members r side exchange kind a b c = rw (a, b, c) refl

-- ---- floats too

pub packet-object : {T E : Type 0} (r : Result T E) (p : Entry) (how : Layout) (head fields : List Said) (old new : List ℕ) → how ≡ layout.Json → head ≡ entry_head p
    → OnOk r (AppendsObject head fields old new) → OnOk r (AppendsEntry how p fields old new)
packet-object (Ok x) p how head fields old new is e h =
    subst (λ (l : Layout). AppendsEntry l p fields old new) (sym is) (subst (λ (s : List Said). AppendsObject s fields old new) e h)
packet-object (Err x) p how head fields old new is e h = tt

pub err-always : {T E P : Type 0} (r : Result T E) → P → OnErr r P
err-always (Ok x) p = tt
err-always (Err x) p = p

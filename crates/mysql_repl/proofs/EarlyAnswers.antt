-- Results for the text of a GTID set that are known before anything is allocated.
use Rattle.std.proofs.Common.{◌≡◌, ℕ, List, [], ◌∷◌, Option, Some, None, option_map, Result, Ok, Err, IfSome, true, refl, sym, ap, ◌∙◌}
use Rattle.std.specs.Global.{Vec}
use Rattle.uuid.specs.Text.{parsed}
use Rattle.mysql_repl.specs.declared.sid.Sid.{Sid}
use Rattle.mysql_repl.specs.declared.sid_text.InvalidSid.{InvalidSid}
use Rattle.mysql_repl.specs.declared.sid_text.InvalidSid.TheVariants as fault
use Rattle.mysql_repl.specs.GtidSetEarly.{early_words, early_piece, early_pieces}
use Rattle.mysql_repl.specs.GtidSetText.{trimmed, words}
use Rattle.mysql_repl.specs.SidText.{colon, has, before, after}

-- the errors of two readers
abbrev Refuses : {A : Type 0} → Result A InvalidSid → InvalidSid → Type 0
Refuses r e = r ≡ Err e

same-refusal : {A B : Type 0} (e x : InvalidSid) → Refuses {A = A} (Err e) x → Refuses {A = B} (Err e) x
same-refusal e x h = cc

not-refused : {A B : Type 0} (x : A) (e : InvalidSid) → Refuses (Ok x) e → B
not-refused x e h = absurd cc

-- ---- the words after a uuid

-- an error of the whole text is that of the rest
pub record IsLeft (whole left : Option InvalidSid) : Type 0 where
  pub same : IfSome whole (λ e. left ≡ Some e)

refused-now : (A B : Type 0) (whole left : Option InvalidSid) (e : InvalidSid) → IfSome whole (λ x. left ≡ Some x) → IfSome left (λ x. Refuses {A = A} (Err e) x)
    → IfSome whole (λ x. Refuses {A = B} (Err e) x)
refused-now A B None left e same h = tt
refused-now A B (Some x) left e same h = same-refusal {A = A} {B = B} e x (rw same at h)

-- the refused word is the first
pub word-refused : (A B : Type 0) (whole left : Option InvalidSid) (e : InvalidSid) → IsLeft whole left → IfSome left (λ x. Refuses {A = A} (Err e) x)
    → IfSome whole (λ x. Refuses {A = B} (Err e) x)
word-refused A B whole left e l h = refused-now A B whole left e l.same h

-- ---- the pieces between commas

-- if the result for the whole text is known, no sid is read, and it is the result for the rest
pub record AnswerIsLeft (whole : Option (Result (List Sid) InvalidSid)) (sids : Vec Sid) (pieces : List (List ℕ)) : Type 0 where
  pub known : IfSome whole (λ read. (sids.items ≡ []) × (early_pieces pieces ≡ Some read))

all-left : (whole : Option (Result (List Sid) InvalidSid)) (sids : Vec Sid) → sids.items ≡ [] → IfSome whole (λ read. (sids.items ≡ []) × (whole ≡ Some read))
all-left None sids none = tt
all-left (Some read) sids none = (none, refl)

-- a piece that isn't blank is refused, or allocates
refusal-of : (e : Option InvalidSid) (read : Result (List Sid) InvalidSid) → option_map Err e ≡ Some read → (x : InvalidSid) × (e ≡ Some x) × (read ≡ Err x)
refusal-of None read h = absurd cc
refusal-of (Some x) read h = (x, refl, cc)

first-refused : (whole : Option (Result (List Sid) InvalidSid)) (sids : Vec Sid) (piece : List ℕ) (pieces : List (List ℕ)) (e : InvalidSid)
    → IfSome whole (λ read. (sids.items ≡ []) × (early_pieces (piece ∷ pieces) ≡ Some read)) → (piece ≡ [] → ◌≡◌ {A = Result (Vec Sid) InvalidSid} (Err e) (Ok sids)) → IfSome (early_piece piece) (λ x. Refuses {A = Vec Sid} (Err e) x)
    → IfSome whole (λ read. Err e ≡ read)
first-refused None sids piece pieces e known blank refused = tt
first-refused (Some read) sids [] pieces e known blank refused = not-refused sids e (sym (blank refl))
first-refused (Some read) sids (c ∷ cs) pieces e known blank refused =
    let f = refusal-of (early_piece (c ∷ cs)) read known.1 in
    let h : Refuses {A = Vec Sid} (Err e) f.0 = rw f.1 at refused in
    same-refusal {A = Vec Sid} {B = List Sid} e f.0 h ∙ sym f.2

pub piece-is-first : (whole : Option (Result (List Sid) InvalidSid)) (sids : Vec Sid) (piece : List ℕ) (pieces left : List (List ℕ)) (e : InvalidSid) → AnswerIsLeft whole sids left → left ≡ piece ∷ pieces
    → (piece ≡ [] → ◌≡◌ {A = Result (Vec Sid) InvalidSid} (Err e) (Ok sids)) → IfSome (early_piece piece) (λ x. Refuses {A = Vec Sid} (Err e) x) → IfSome whole (λ read. Err e ≡ read)
piece-is-first whole sids piece pieces left e l is blank refused = first-refused whole sids piece pieces e (rw is at l.known) blank refused

none-read : (whole : Option (Result (List Sid) InvalidSid)) (sids : Vec Sid) → IfSome whole (λ read. (sids.items ≡ []) × (early_pieces [] ≡ Some read)) → IfSome whole (λ read. Ok sids.items ≡ read)
none-read None sids known = tt
none-read (Some read) sids known =
    let last : Ok [] ≡ read = let h : ◌≡◌ {A = Option (Result (List Sid) InvalidSid)} (Some (Ok [])) (Some read) = known.1 in cc in ap Ok known.0 ∙ last

-- ---- a uuid and its words

pub uuid-early : (piece front word : List ℕ) → has colon piece ≡ true → front ≡ before colon piece → word ≡ trimmed front → None ≡ parsed word → early_piece piece ≡ Some fault.Uuid
unfolding early_piece
uuid-early [] front word h f w p = absurd cc
uuid-early (c ∷ cs) front word h f w p = rw (h, ← f, ← w, ← p) refl

pub uuid-goes_on : (piece front word text id : List ℕ) → has colon piece ≡ true → front ≡ before colon piece → word ≡ trimmed front → Some id ≡ parsed word → text ≡ after colon piece
    → early_piece piece ≡ early_words (words colon text)
unfolding early_piece
uuid-goes_on [] front word text id h f w p t = absurd cc
uuid-goes_on (c ∷ cs) front word text id h f w p t = rw (h, ← f, ← w, ← p, ← t) refl

pub cut-some : (piece : List ℕ) → has colon piece ≡ true → piece ≡ [] → ⊥
cut-some [] h e = cc
cut-some (c ∷ cs) h e = cc

-- ---- dumps

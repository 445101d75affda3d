-- Sids written in order.
use Rattle.std.proofs.Common.{◌≡◌, ℕ, add-one, ◌+◌, ◌<◌, List, [], ◌∷◌, ◌++◌, length, take, get_or, Option, Some, None, refl, sym, ap, ◌∙◌, append_assoc}
use Rattle.std.proofs.lemmas.List.{append-nil}
use Rattle.std.proofs.Math.Seq.{take-suc}
use Rattle.mysql_repl.specs.declared.sid.Sid.{Sid}
use Rattle.mysql_repl.specs.GtidSetWritten.{next_text, texts_after}

-- the last of some sids, after this one
abbrev pub last_from : Option Sid → List Sid → Option Sid
last_from before [] = before
last_from before (s ∷ sids) = last_from (Some s) sids

texts-more : (before : Option Sid) (sids : List Sid) (s : Sid) → texts_after before (sids ++ s ∷ []) ≡ texts_after before sids ++ next_text (last_from before sids) s
texts-more before [] s = append-nil (next_text before s)
texts-more before (t ∷ sids) s =
    ap (λ (x : List ℕ). next_text before t ++ x) (texts-more (Some t) sids s)
    ∙ sym (append_assoc (next_text before t) (texts_after (Some t) sids) (next_text (last_from (Some t) sids) s))

last-more : (before : Option Sid) (sids : List Sid) (s : Sid) → last_from before (sids ++ s ∷ []) ≡ Some s
last-more before [] s = refl
last-more before (t ∷ sids) s = last-more (Some t) sids s

one-more : (sids : List Sid) (k : ℕ) (s : Sid) → k < length sids → s ≡ get_or sids k s → take (k + 1) sids ≡ take k sids ++ s ∷ []
one-more sids k s lt e = rw (add-one, take-suc sids k s lt, ← e) refl

pub last-next : (sids : List Sid) (k : ℕ) (s : Sid) → k < length sids → s ≡ get_or sids k s → last_from None (take (k + 1) sids) ≡ Some s
last-next sids k s lt e = ap (last_from None) (one-more sids k s lt e) ∙ last-more None (take k sids) s

pub texts-next : (sids : List Sid) (k : ℕ) (s : Sid) (before : Option Sid) → k < length sids → s ≡ get_or sids k s → before ≡ last_from None (take k sids)
    → texts_after None (take k sids) ++ next_text before s ≡ texts_after None (take (k + 1) sids)
texts-next sids k s before lt e b =
    ap (λ (o : Option Sid). texts_after None (take k sids) ++ next_text o s) b ∙ sym (texts-more None (take k sids) s) ∙ ap (texts_after None) (sym (one-more sids k s lt e))

-- A loop that reads intervals.
use Rattle.std.proofs.Common.{◌≡◌, ◌⊎◌, inl, inr, List, [], ◌∷◌, ◌++◌, None, Result, Ok, Err, IfSome, refl, sym, ap, ◌∙◌, append_assoc}
use Rattle.std.proofs.lemmas.List.{append-nil}
use Rattle.mysql_repl.specs.declared.gno_interval.GnoInterval.{GnoInterval}
use Rattle.mysql_repl.specs.declared.sid_text.InvalidSid.{InvalidSid}
use Rattle.mysql_repl.specs.SidText.{all_read, onto, first_refusal}

-- what is read, after what was read before
abbrev pub with_front : List GnoInterval → Result (List GnoInterval) InvalidSid → Result (List GnoInterval) InvalidSid
with_front front (Ok is) = Ok (front ++ is)
with_front front (Err e) = Err e

regroup : (front : List GnoInterval) (i : GnoInterval) (r : Result (List GnoInterval) InvalidSid) → with_front front (onto (Ok i) r) ≡ with_front (front ++ i ∷ []) r
regroup front i (Ok is) = ap Ok (sym (append_assoc front (i ∷ []) is))
regroup front i (Err e) = refl

pub next-interval : (front : List GnoInterval) (i : GnoInterval) (left more : List (Result GnoInterval InvalidSid)) (total : Result (List GnoInterval) InvalidSid)
    → with_front front (all_read left) ≡ total → left ≡ Ok i ∷ more → with_front (front ++ i ∷ []) (all_read more) ≡ total
next-interval front i left more total so_far is = sym (regroup front i (all_read more)) ∙ rw is at so_far

pub no-interval : (front : List GnoInterval) (e : InvalidSid) (left more : List (Result GnoInterval InvalidSid)) (total : Result (List GnoInterval) InvalidSid)
    → with_front front (all_read left) ≡ total → left ≡ Err e ∷ more → total ≡ Err e
no-interval front e left more total so_far is = sym (rw is at so_far)

pub all-intervals : (front : List GnoInterval) (left : List (Result GnoInterval InvalidSid)) (total : Result (List GnoInterval) InvalidSid)
    → with_front front (all_read left) ≡ total → left ≡ [] → total ≡ Ok front
all-intervals front left total so_far is = let last : with_front front (all_read []) ≡ total = rw is at so_far in sym last ∙ ap Ok (append-nil front)

pub none-before : (total : Result (List GnoInterval) InvalidSid) → with_front [] total ≡ total
none-before (Ok is) = refl
none-before (Err e) = refl

-- ---- a refused first interval is refused before anything is allocated

-- none was read yet, or the first one isn't refused
abbrev pub IsEarly : (left all : List (Result GnoInterval InvalidSid)) → Type 0
IsEarly left all = (left ≡ all) ⊎ (first_refusal all ≡ None)

pub not-refused : (left all more : List (Result GnoInterval InvalidSid)) (i : GnoInterval) → IsEarly left all → left ≡ Ok i ∷ more → first_refusal all ≡ None
not-refused left all more i early is =
    elim early [ inl same ↦ ap first_refusal (sym same ∙ is) | inr none ↦ none ]

pub none-refused : {A : Type 0} (all : List (Result GnoInterval InvalidSid)) (r : Result A InvalidSid) → first_refusal all ≡ None → IfSome (first_refusal all) (λ x. r ≡ Err x)
none-refused all r none = rw none tt

pub ruleset loops = (next-interval, no-interval, all-intervals, none-before)

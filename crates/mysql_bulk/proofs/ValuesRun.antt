-- A row of values, DEFAULT and IGNORE is offered, and offered again if it was kept back.
use Rattle.std.proofs.Common.{◌≡◌, ℕ, add-one, ◌+◌, ◌<◌, suc, Bool, true, false, if◌then◌else◌, List, [], ◌∷◌, ◌++◌, length, map, drop, drop-cons, get_or, Result, Ok, Err, refl, sym, ◌∙◌, ap, inl, inr}
use Rattle.std.specs.Prelude.{IfErr, OnOk}
use Rattle.mysql_bulk.specs.declared.error.BulkRowError.{BulkRowError}
use Rattle.mysql_bulk.specs.declared.error.BulkRowError.TheVariants as refused
use Rattle.mysql_bulk.specs.BulkValue.{Cell}
use Rattle.mysql_bulk.specs.RequestWriter.{WriterState}
use Rattle.mysql_bulk.specs.ValueRows.{AddsCells, LetsGo}
use Rattle.mysql_bulk.specs.ValuesRun.{LacksRoom, Offered, OfferRefused}

-- ---- one row

not_taken : (u m : WriterState) (row : List Cell) (b : Bool) → AddsCells u row (Ok b) m → b ≡ false → m ≡ u → AddsCells u row (Ok false) u
not_taken u m row b a f e =
    rw (f, e) at a

let_go_from : (u m v : WriterState) → m ≡ u → LetsGo m v → LetsGo u v
let_go_from u m v e g = rw e at g

-- the result of offering a row again
pub again_taken : (u m v x : WriterState) (row : List Cell) (b c : Bool) (q more : List (List ℕ)) → AddsCells u row (Ok b) m → b ≡ false → m ≡ u → LetsGo m v → more ≡ q ++ m.bytes ∷ [] → AddsCells v row (Ok c) x → c ≡ true
    → Offered u row q x more
again_taken u m v x row b c q more a f e g sent adds is =
    inr (v, not_taken u m row b a f e, let_go_from u m v e g, rw is at adds, sent ∙ ap (λ (s : WriterState). q ++ s.bytes ∷ []) e)

pub again_refused : (u m v x : WriterState) (row : List Cell) (b : Bool) (q more : List (List ℕ)) (e : BulkRowError) → AddsCells u row (Ok b) m → b ≡ false → m ≡ u → LetsGo m v → more ≡ q ++ m.bytes ∷ []
    → AddsCells v row (Err e) x → LacksRoom v row e → OfferRefused u row q e x more
again_refused u m v x row b q more e a f same g sent adds lacks =
    inr (inr (inl (v, not_taken u m row b a f same, let_go_from u m v same g, adds, sent ∙ ap (λ (s : WriterState). q ++ s.bytes ∷ []) same, lacks)))

pub again_kept : (u m v x : WriterState) (row : List Cell) (b c : Bool) (q more : List (List ℕ)) (e : BulkRowError) → AddsCells u row (Ok b) m → b ≡ false → m ≡ u → LetsGo m v → AddsCells v row (Ok c) x → c ≡ false → x ≡ v
    → OfferRefused u row q e x more
again_kept u m v x row b c q more e a f same g adds is stays =
    inr (inr (inr (v, not_taken u m row b a f same, let_go_from u m v same g, not_taken v x row c adds is stays)))

-- ---- rows one after another

-- the rows from a place on
pub next_of_all : {X Y : Type 0} (f : X → Y) (xs : List X) (i : ℕ) (x : X) → i < length xs → x ≡ get_or xs i x → map f (drop i xs) ≡ f x ∷ map f (drop (i + 1) xs)
next_of_all f xs i x lt at = rw add-one (ap (map f) (drop-cons xs i x lt) ∙ ap (λ y. f y ∷ map f (drop (suc i) xs)) (sym at))

-- ---- the result of offering a row if none is waiting

pub answered_ok : (r : Result (Unit {0}) BulkRowError) (c : Bool) (P : Type 0) → r ≡ (if c then Ok tt else Err refused.TooLarge) → (c ≡ true → P) → OnOk r P
answered_ok r true P e h = rw e (h refl)
answered_ok r false P e h = rw e tt

pub answered_err : (r : Result (Unit {0}) BulkRowError) (c : Bool) (P : BulkRowError → Type 0) → r ≡ (if c then Ok tt else Err refused.TooLarge) → (c ≡ false → P refused.TooLarge) → IfErr r P
answered_err r true P e h = rw e tt
answered_err r false P e h = rw e (h refl)

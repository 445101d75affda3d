-- A row more, and a loop over rows.
use Rattle.std.proofs.Common.{◌≡◌, ◌≢◌, ℕ, true, false, List, [], ◌∷◌, ◌++◌, Ok, refl, sym, ◌∙◌, ap, subst, inl, inr, append_assoc}
use Rattle.std.proofs.lemmas.List.{append-nil}
use Rattle.std.specs.Global.{Vec}
use Rattle.mysql_packets.specs.Value.{Content}
use Rattle.mysql_packets.specs.RequestWriter.{WriterState, Holds, AddsAsBuilder, FinishesAsBuilder}
use Rattle.mysql_packets.specs.StreamedRows.{Streams}
use Rattle.mysql_packets.specs.declared.value.ValueRef.{ValueRef}
use Rattle.examples_proved.specs.Stream.{Steps, rows_held, row_held}

pub stepped : (w m : WriterState) (row : List Content) (before : List (List ℕ)) → AddsAsBuilder w row (Ok true) m → Steps w row before m before
stepped w m row before a = record {
  holds = λ held h. let s = a held h in (s.0, s.1);
  streams = λ held h rest requests u s. ([], sym (append-nil before), inl (m, a, s));
}

-- the row did not fit: the request was let go, and the row is the first one of the next
pub closed : (w n v m : WriterState) (row : List Content) (before after : List (List ℕ)) (copy : List ℕ) → AddsAsBuilder w row (Ok false) n → copy ≡ n.bytes → FinishesAsBuilder n v → AddsAsBuilder v row (Ok true) m
    → after ≡ before ++ copy ∷ [] → Steps w row before m after
closed w n v m row before after copy a bytes f b e = record {
  holds = λ held h.
      let full = a held h in
      let next = b [] (f full.0 full.1).1 in
      (next.0, next.1);
  streams = λ held h rest requests u s. (copy ∷ [], e, inr (n, v, m, requests, a, f, b, ap (λ (x : List ℕ). x ∷ requests) bytes, s));
}

-- so far: what is streamed from here was streamed from the start
pub record SoFar (w : WriterState) (rows : List (Vec ValueRef)) (m : WriterState) (left : List (Vec ValueRef)) (sent : List (List ℕ)) : Type 0 where
  pub holds : (held : List (List Content)) × Holds m held
  pub streams : (requests : List (List ℕ)) (u : WriterState) → Streams m (rows_held left) requests u → Streams w (rows_held rows) (sent ++ requests) u

pub begins : (w : WriterState) (rows : List (Vec ValueRef)) → Holds w [] → SoFar w rows w rows []
begins w rows h = record { holds = ([], h); streams = λ requests u s. s }

pub goes_on : (w : WriterState) (rows : List (Vec ValueRef)) (m u : WriterState) (row : Vec ValueRef) (left : List (Vec ValueRef)) (sent later : List (List ℕ))
    → SoFar w rows m (row ∷ left) sent → Steps m (row_held row) sent u later → SoFar w rows u left later
goes_on w rows m u row left sent later so_far step = record {
  holds = step.holds so_far.holds.0 so_far.holds.1;
  streams = λ requests v s.
      let next = step.streams so_far.holds.0 so_far.holds.1 (rows_held left) requests v s in
      let whole = so_far.streams (next.0 ++ requests) v next.2 in
      subst (λ (l : List (List ℕ)). Streams w (rows_held rows) l v) (sym (append_assoc sent next.0 requests) ∙ ap (λ (l : List (List ℕ)). l ++ requests) (sym next.1)) whole;
}

pub ends : (w : WriterState) (rows : List (Vec ValueRef)) (m : WriterState) (left : List (Vec ValueRef)) (sent : List (List ℕ)) → SoFar w rows m left sent → left ≡ [] → Streams w (rows_held rows) sent m
ends w rows m left sent so_far none =
    let done : Streams m (rows_held left) [] m = subst (λ (l : List (Vec ValueRef)). Streams m (rows_held l) [] m) (sym none) (refl, refl) in
    subst (λ (l : List (List ℕ)). Streams w (rows_held rows) l m) (append-nil sent) (so_far.streams [] m done)

pub some_held : (rows : List (Vec ValueRef)) → rows ≢ [] → rows_held rows ≢ []
some_held [] some e = some refl
some_held (row ∷ rows) some e = cc

pub ruleset steps = (stepped)

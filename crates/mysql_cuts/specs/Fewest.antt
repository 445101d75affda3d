-- Cuts of rows of which only the weights are known, given by the numbers of rows at which their parts end.
use Rattle.std.specs.Prelude.{◌≡◌, ℕ, ◌+◌, ◌<◌, Bool, List, Option, MatchOption}
use Rattle.mysql_cuts.specs.declared.rule.BulkRule.{BulkRule}
use Rattle.mysql_cuts.specs.Cut.{Packing, request_size, IsFittingCut, IsFewest, ends_after}

-- requests over weights, under a rule
abbrev pub weights : BulkRule → ℕ → ℕ → Packing ℕ
weights rule limit arity = record {
  limit = limit;
  arity = arity;
  weight = λ n. n;
  types_always = rule.types_always;
  max_rows = rule.max_rows;
}

-- requests over rows, measured by their weights
abbrev pub weighed : {X : Type 0} → Packing X → Packing ℕ
weighed k = record {
  limit = k.limit;
  arity = k.arity;
  weight = λ n. n;
  types_always = k.types_always;
  max_rows = k.max_rows;
}

-- these ends describe a fitting cut
abbrev pub NamesFitting : Packing ℕ → List ℕ → List ℕ → Type 0
NamesFitting k sizes ends = (parts : List (List ℕ)) × (ends ≡ ends_after 0 parts) × IsFittingCut k sizes parts

-- these ends describe a cut with the fewest parts
abbrev pub NamesFewest : Packing ℕ → List ℕ → List ℕ → Type 0
NamesFewest k sizes ends = (parts : List (List ℕ)) × (ends ≡ ends_after 0 parts) × IsFewest k sizes parts

-- the rest of the limit after a request of these rows, if they fit
abbrev pub CapacityIs : Packing ℕ → Bool → List ℕ → Option ℕ → Type 0
CapacityIs k types part capacity = MatchOption capacity (k.limit < request_size k types part) (λ left. left + request_size k types part ≡ k.limit)

-- The arguments of `bulk`.
use Rattle.std.specs.Prelude.{ℕ, ◌^◌, nat_le, List, [], ◌∷◌, take, drop, Bool, true, false, Option, Some, None, option_map, codes, if◌then◌else◌}
use Rattle.mysql_cuts.specs.declared.rule.BulkRule.{BulkRule}
use Rattle.mysql_values.specs.declared.param_type.ParamType.{ParamType}
use Rattle.mysql_program.specs.Decimal.{number_below}
use Rattle.mysql_program.specs.Named.{is_named}
use Rattle.mysql_program.specs.TypeWords.{types_of}

pub record BulkCall : Type 0 where
  -- the statement's number
  pub stmt_id : ℕ
  -- the packet limit in bytes
  pub max_allowed_packet : ℕ
  pub rule : BulkRule
  -- the types of the columns, if they are declared
  pub columns : Option (List ParamType)

abbrev pub at_least : ℕ → Option ℕ → Option ℕ
at_least bound None = None
at_least bound (Some n) = if nat_le bound n then Some n else None

-- K of rows=K, which is at least 1
abbrev pub most_rows : List ℕ → Option ℕ
most_rows word = at_least 1 (number_below (2 ^ 64) (drop 5 word))

-- columns=TYPE,TYPE,..
abbrev pub columns_in : List ℕ → Option (List ParamType)
columns_in word = if is_named (take 8 word) (codes "columns=") then types_of (drop 8 word) else None

-- the rule for the requests, and the types of the columns, if they are declared
abbrev pub Options : Type 0
Options = BulkRule × Option (List ParamType)

-- [columns=TYPE,TYPE,..]
abbrev pub after_rows : BulkRule → List (List ℕ) → Option Options
after_rows rule [] = Some (rule, None)
after_rows rule (word ∷ []) = option_map (λ types. (rule, Some types)) (columns_in word)
after_rows rule _ = None

abbrev pub with_rows : (types_always : Bool) → Option ℕ → List (List ℕ) → Option Options
with_rows types_always None words = None
with_rows types_always (Some k) words = after_rows (record { types_always = types_always; max_rows = Some k }) words

-- [rows=K] [columns=TYPE,TYPE,..]
abbrev pub after_types : (types_always : Bool) → List (List ℕ) → Option Options
after_types types_always [] = after_rows (record { types_always = types_always; max_rows = None }) []
after_types types_always (word ∷ words) =
    if is_named (take 5 word) (codes "rows=") then with_rows types_always (most_rows word) words
    else after_rows (record { types_always = types_always; max_rows = None }) (word ∷ words)

-- [types] [rows=K] [columns=TYPE,TYPE,..]
abbrev pub options_of : List (List ℕ) → Option Options
options_of [] = after_types false []
options_of (word ∷ words) = if is_named word (codes "types") then after_types true words else after_types false (word ∷ words)

abbrev pub with_options : Option ℕ → Option ℕ → Option Options → Option BulkCall
with_options (Some stmt_id) (Some most) (Some options) = Some (record { stmt_id = stmt_id; max_allowed_packet = most; rule = options.0; columns = options.1 })
with_options _ _ _ = None

-- STMT MAX [types] [rows=K] [columns=TYPE,TYPE,..]. STMT has 32 bits; MAX is at least 4, and has 64 bits.
abbrev pub bulk_call : List (List ℕ) → Option BulkCall
bulk_call (stmt ∷ most ∷ words) = with_options (number_below (2 ^ 32) stmt) (at_least 4 (number_below (2 ^ 64) most)) (options_of words)
bulk_call _ = None

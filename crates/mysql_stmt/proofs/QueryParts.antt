-- The bytes of a sent query, by its parts.
use Rattle.std.proofs.Common.{◌≡◌, ◌≢◌, ℕ, List, [], ◌∷◌, ◌++◌, length, map, append_assoc, refl, sym, ap, ◌∙◌}
use Rattle.std.specs.Prelude.{true, false}
use Rattle.std.proofs.lemmas.List.{append-nil}
use Rattle.std.proofs.lemmas.Simd.{map-map}
use Rattle.mysql_wire.specs.ServerCommand.{server_command_code}
use Rattle.mysql_wire.specs.Writing.{le_bytes}
use Rattle.mysql_wire.specs.declared.codes.server_command.ServerCommand.{ServerCommand}
use Rattle.mysql_wire.specs.declared.codes.server_command.ServerCommand.TheVariants as name
use Rattle.mysql_stmt.specs.ComQuery.{attributes, count_bytes, listed, query_bytes, set_bytes, some_bytes, text}
use Rattle.mysql_stmt.specs.ExecuteParam.{Param, value_of}
use Rattle.mysql_stmt.specs.ExecuteParams.{where_some}
use Rattle.mysql_stmt.specs.NullMarks.{bitmap_of}
use Rattle.mysql_stmt.specs.SentNulls.{bitmap_with}
use Rattle.mysql_stmt.specs.SentParam.{bound_bytes, sent_param, sent_params}
use Rattle.mysql_stmt.specs.SentTypes.{NamedType}
use Rattle.mysql_stmt.specs.declared.com_query.ComQuery.{ComQuery}

where-empty : {A : Type 0} (values : List A) (bytes : List ℕ) → length values ≡ 0 → where_some values bytes ≡ []
where-empty [] bytes none = refl
where-empty (v ∷ values) bytes none = absurd cc

where-full : {A : Type 0} (values : List A) (bytes : List ℕ) → length values ≢ 0 → where_some values bytes ≡ bytes
where-full [] bytes some = absurd (some refl)
where-full (v ∷ values) bytes some = refl

module _ {A : Type 0} (attribute : A → Param) (attribute_type : A → NamedType) (q : ComQuery A) where
  -- the contents of attributes
  held-are : (l : List A) → bitmap_with attribute attribute [] l ≡ bitmap_of (map (λ p. value_of p.param) (sent_params attribute attribute_type l))
  held-are l = ap bitmap_of (sym (map-map (λ p. value_of p.param) (sent_param attribute attribute_type) l))

  -- what precedes the bitmap
  abbrev pub head_with : ServerCommand → (count sets : List ℕ) → List ℕ
  head_with command count sets = le_bytes 1 (server_command_code command) ++ (count ++ (sets ++ []))

  pub bytes-of-none : (command : ServerCommand) (count sets raw : List ℕ) (l : List A) → length l ≡ 0 → command ≡ name.COM_QUERY → l ≡ listed q
      → count ≡ count_bytes (attributes q) → sets ≡ set_bytes (attributes q) → raw ≡ text q → query_bytes attribute attribute_type q ≡ head_with command count sets ++ (raw ++ [])
  unfolding query_bytes
  bytes-of-none command count sets raw l none is_command is_listed is_count is_sets is_raw =
      let empty : length (listed q) ≡ 0 = ap length (sym is_listed) ∙ none in
      rw (is_command, is_count, is_sets, is_raw, where-empty (listed q) (some_bytes (sent_params attribute attribute_type (listed q))) empty) (simp (append-nil, append_assoc))

  pub bytes-of-some : (command : ServerCommand) (count sets raw : List ℕ) (l : List A) → length l ≢ 0 → command ≡ name.COM_QUERY → l ≡ listed q
      → count ≡ count_bytes (attributes q) → sets ≡ set_bytes (attributes q) → raw ≡ text q
      → query_bytes attribute attribute_type q ≡ head_with command count sets ++ (bound_bytes (bitmap_with attribute attribute [] l) true true false [] (sent_params attribute attribute_type l) ++ (raw ++ []))
  unfolding query_bytes
  bytes-of-some command count sets raw l some is_command is_listed is_count is_sets is_raw =
      let full : length (listed q) ≢ 0 = λ none. some (ap length is_listed ∙ none) in
      rw (is_command, is_count, is_sets, is_raw, is_listed, held-are (listed q), where-full (listed q) (some_bytes (sent_params attribute attribute_type (listed q))) full)
      (simp (append-nil, append_assoc))

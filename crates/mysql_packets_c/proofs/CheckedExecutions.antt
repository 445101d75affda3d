-- The parts of an execution whose parameters were checked.
use Rattle.std.proofs.Common.{◌≡◌, ◌≢◌, ◌+◌, ◌*◌, ◌++◌, ◌∷◌, ℕ, Bool, true, false, if◌then◌else◌, List, [], length, refl, sym, ap, ◌∙◌, arith, append_assoc, length-append}
use Rattle.std.specs.List.{flat_map}
use Rattle.std.proofs.lemmas.List.{append-nil}
use Rattle.mysql_stmt.specs.ExecuteHead.{execute_head}
use Rattle.mysql_stmt.specs.ExecuteParams.{where_some}
use Rattle.mysql_stmt.specs.Execution.{execution_bytes}
use Rattle.mysql_stmt.specs.declared.execute_head.ComStmtExecuteHead.{ComStmtExecuteHead}
use Rattle.mysql_wire.specs.Writing.{le_bytes}
use Rattle.mysql_packets_c.specs.CheckedExecution.{front_bytes, plain_of, types_of}
use Rattle.mysql_packets_c.specs.CheckedParams.{bitmap_for, plainly, sent_bytes, type_sent}
use Rattle.mysql_packets_c.specs.declared.checked_execution.CheckedExecution.{CheckedExecution}
use Rattle.mysql_packets_c.specs.declared.parameter.CParameter.{CParameter}
use Rattle.mysql_packets_c.proofs.CheckedParams.{bytes-bare, bytes-typed, types-long}

-- ---- the front

pub front-none : (e : CheckedExecution) → e.params.items.now ≡ [] → front_bytes e ≡ execute_head.bytes e.head
front-none e none = rw none (append-nil (execute_head.bytes e.head))

where-some : (items : List CParameter) (bytes : List ℕ) → items ≢ [] → where_some items bytes ≡ bytes
where-some [] bytes some = absurd (some refl)
where-some (p ∷ items) bytes some = refl

pub front-some : (e : CheckedExecution) (flag : ℕ) → e.params.items.now ≢ [] → flag ≡ (if e.sends_types then 1 else 0)
    → front_bytes e ≡ execute_head.bytes e.head ++ (bitmap_for e.params.items.now ++ (le_bytes 1 flag ++ []))
front-some e flag some is =
    let head = execute_head.bytes e.head in
    let nulls = bitmap_for e.params.items.now in
    ap (λ (l : List ℕ). head ++ l) (where-some e.params.items.now (nulls ++ le_bytes 1 (if e.sends_types then 1 else 0)) some)
    ∙ ap (λ (n : ℕ). head ++ (nulls ++ le_bytes 1 n)) (sym is)
    ∙ ap (λ (l : List ℕ). head ++ (nulls ++ l)) (sym (append-nil (le_bytes 1 flag)))

-- ---- the whole

regrouped : (head nulls flag types values : List ℕ) → head ++ (nulls ++ (flag ++ (types ++ (values ++ [])))) ≡ (head ++ (nulls ++ flag)) ++ (types ++ values)
regrouped head nulls flag types values =
    ap (λ (l : List ℕ). head ++ (nulls ++ (flag ++ (types ++ l)))) (append-nil values)
    ∙ ap (λ (l : List ℕ). head ++ l) (sym (append_assoc nulls flag (types ++ values)))
    ∙ sym (append_assoc head (nulls ++ flag) (types ++ values))

in-parts : (head : ComStmtExecuteHead) (items : List CParameter) (sends : Bool) → execution_bytes (plainly head items sends)
    ≡ (execute_head.bytes head ++ where_some items (bitmap_for items ++ le_bytes 1 (if sends then 1 else 0))) ++ ((if sends then flat_map type_sent items else []) ++ flat_map sent_bytes items)
in-parts head [] true = sym (append-nil (execute_head.bytes head ++ []))
in-parts head [] false = sym (append-nil (execute_head.bytes head ++ []))
in-parts head (p ∷ items) true =
    let all = p ∷ items in
    let some : all ≢ [] = λ e. absurd cc in
    bytes-typed head all true 1 some refl refl ∙ regrouped (execute_head.bytes head) (bitmap_for all) (le_bytes 1 1) (flat_map type_sent all) (flat_map sent_bytes all)
in-parts head (p ∷ items) false =
    let all = p ∷ items in
    let some : all ≢ [] = λ e. absurd cc in
    bytes-bare head all false 0 some refl refl ∙ regrouped (execute_head.bytes head) (bitmap_for all) (le_bytes 1 0) [] (flat_map sent_bytes all)

pub parts-of : (e : CheckedExecution) → execution_bytes (plain_of e) ≡ front_bytes e ++ (types_of e ++ flat_map sent_bytes e.params.items.now)
parts-of e = in-parts e.head e.params.items.now e.sends_types

pub length-types : (e : CheckedExecution) → length (types_of e) ≡ (if e.sends_types then 2 * length e.params.items.now else 0)
length-types e = by-sends e.params.items.now e.sends_types
  where
    by-sends : (items : List CParameter) (sends : Bool) → length (if sends then flat_map type_sent items else []) ≡ (if sends then 2 * length items else 0)
    by-sends items true = types-long items
    by-sends items false = refl

pub length-parts : (e : CheckedExecution) → length (execution_bytes (plain_of e)) ≡ length (front_bytes e) + (length (types_of e) + length (flat_map sent_bytes e.params.items.now))
length-parts e =
    let types = types_of e in
    let values = flat_map sent_bytes e.params.items.now in
    omega (arith, ap length (parts-of e), length-append (front_bytes e) (types ++ values), length-append types values)

pub whole-typed : (e : CheckedExecution) → e.sends_types ≡ true → execution_bytes (plain_of e) ≡ front_bytes e ++ (flat_map type_sent e.params.items.now ++ flat_map sent_bytes e.params.items.now)
whole-typed e sends = parts-of e ∙ ap (λ (b : Bool). front_bytes e ++ ((if b then flat_map type_sent e.params.items.now else []) ++ flat_map sent_bytes e.params.items.now)) sends

pub whole-bare : (e : CheckedExecution) → e.sends_types ≡ false → execution_bytes (plain_of e) ≡ front_bytes e ++ flat_map sent_bytes e.params.items.now
whole-bare e sends = parts-of e ∙ ap (λ (b : Bool). front_bytes e ++ ((if b then flat_map type_sent e.params.items.now else []) ++ flat_map sent_bytes e.params.items.now)) sends

pub ruleset fronts = (front-none, front-some)

pub ruleset lengths = (length-types, length-parts)

pub ruleset wholes = (whole-typed, whole-bare)

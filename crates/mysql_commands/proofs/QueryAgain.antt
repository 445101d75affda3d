-- A query that a client sends is read back.
use Rattle.std.proofs.Common.{◌≡◌, ℕ, ◌+◌, ◌<◌, ◌^◌, true, false, is_some, List, [], ◌∷◌, ◌++◌, length, map, Option, Some, None, Ok, refl, sym, subst, ap, ◌∙◌, arith, append_assoc}
use Rattle.std.proofs.lemmas.List.{append-nil, length-map}
use Rattle.std.specs.List.{All, flat_map}
use Rattle.mysql_wire.specs.Again.{lenenc-again}
use Rattle.mysql_wire.specs.Constant.{const_byte}
use Rattle.mysql_wire.specs.Each.{each}
use Rattle.mysql_wire.specs.Flags.{CapabilityFlags}
use Rattle.mysql_wire.specs.Int.{raw_int}
use Rattle.mysql_wire.specs.LenEnc.{lenenc_bytes}
use Rattle.mysql_wire.specs.ServerCommand.{server_command_code}
use Rattle.mysql_wire.specs.Spelling.{IsSpelling, raw-again, const_byte-again}
use Rattle.mysql_wire.specs.Writing.{le_bytes}
use Rattle.mysql_wire.specs.declared.codes.server_command.ServerCommand.TheVariants as name
use Rattle.mysql_wire.specs.declared.lenenc.LenEnc.{LenEnc}
use Rattle.mysql_stmt.proofs.ExecutionAgain.{attributes-again as values-again, front-again, second-bits}
use Rattle.mysql_stmt.specs.BindFront.{BindFront, bind_front, nothing_bound}
use Rattle.mysql_stmt.specs.ComQuery.{count_bytes, set_bytes, some_bytes, query_bytes}
use Rattle.mysql_stmt.specs.ComQuery as sent
use Rattle.mysql_stmt.specs.ExecuteParam.{value_of}
use Rattle.mysql_stmt.specs.ExecuteParams.{where_some}
use Rattle.mysql_stmt.specs.NullMarks.{bitmap_of}
use Rattle.mysql_stmt.specs.ReadAgain.{SentFits, attribute_read, type_read}
use Rattle.mysql_stmt.specs.SentParam.{attribute_type, list_of, sent_attributes, type_bytes, value_bytes}
use Rattle.mysql_stmt.specs.SentTypes.{NamedType}
use Rattle.mysql_stmt.specs.declared.com_query.ComQuery.{ComQuery}
use Rattle.mysql_stmt.specs.declared.execute_param.QueryAttribute.{QueryAttribute}
use Rattle.mysql_commands.specs.Command.{command, command_bytes, CommandFits}
use Rattle.mysql_commands.specs.Query.{query, query_of, sends_attributes}
use Rattle.mysql_commands.specs.QueryAttributes.{lenenc_int, query_attributes}
use Rattle.mysql_commands.specs.SentQuery.{AttributesFit, SentQueryFits, attributes_bytes, attributes_read, query_read, sent_bytes}
use Rattle.mysql_commands.specs.declared.command.Command.TheVariants as variant
use Rattle.mysql_commands.proofs.CommandAgain.{command-again}

-- ---- attributes as sent parameters

types-read : (l : List QueryAttribute) → map (λ p. type_read true p.named_type) (sent_attributes l) ≡ map attribute_type l
types-read [] = refl
types-read (a ∷ l) = ap (λ (ts : List NamedType). attribute_type a ∷ ts) (types-read l)

-- ---- all of them

count-again : (n : ℕ) → n < 2 ^ 64 → IsSpelling lenenc_int (raw_int n) (lenenc_bytes n)
count-again n lt = raw-again LenEnc _ n (lenenc_bytes n) (lenenc-again n lt)

one-byte : (T : Type 0) → IsSpelling (const_byte {T = T} 1) (record { 0 = record {} }) (le_bytes 1 1)
unfolding le_bytes
one-byte T rest = const_byte-again 1 _ rest

attributes-again : (l : List QueryAttribute) → length l < 2 ^ 64 → All SentFits (sent_attributes l) → IsSpelling query_attributes (map attribute_read l) (attributes_bytes l)
unfolding each
attributes-again [] few fit rest =
    let count = lenenc_bytes 0 in
    let sets = le_bytes 1 1 in
    let joined : count ++ sets ++ [] ++ rest ≡ count ++ (sets ++ rest) = append_assoc (count ++ sets) [] rest ∙ append_assoc count sets rest in
    subst (λ (text : List ℕ). query_attributes.Spells [] text rest) (sym joined)
    (raw_int 0, sets ++ rest, count-again 0 few (sets ++ rest), (record { 0 = record {} }, rest, one-byte _ rest, (nothing_bound, rest, (refl, refl), (refl, refl))))
attributes-again (a ∷ l) few fit rest =
    let all = a ∷ l in
    let ps = sent_attributes all in
    let count = lenenc_bytes (length all) in
    let sets = le_bytes 1 1 in
    let nulls = bitmap_of (map (λ p. value_of p.param) ps) in
    let typed = flat_map (type_bytes true) ps in
    let sent = flat_map (value_bytes false) ps in
    let left = sent ++ rest in
    let after = nulls ++ (sets ++ (typed ++ left)) in
    let inner : some_bytes ps ++ rest ≡ after =
    append_assoc nulls (sets ++ (typed ++ sent)) rest ∙ ap (λ (text : List ℕ). nulls ++ text) (append_assoc sets (typed ++ sent) rest ∙ ap (λ (text : List ℕ). sets ++ text) (append_assoc typed sent rest)) in
    let joined : count ++ sets ++ some_bytes ps ++ rest ≡ count ++ (sets ++ after) =
    append_assoc (count ++ sets) (some_bytes ps) rest ∙ append_assoc count sets (some_bytes ps ++ rest) ∙ ap (λ (text : List ℕ). count ++ (sets ++ text)) inner in
    let f : List NamedType → BindFront = λ ts. record { nulls = nulls; sends_types = true; types = ts } in
    let long : length ps ≡ length all = length-map all _ in
    let counted : 0 + length ps ≡ length all = omega (arith, long) in
    let front : (bind_front true (length all) 0).Spells (f (map attribute_type all)) after left =
    subst (λ (ts : List NamedType). (bind_front true (length all) 0).Spells (f ts) after left) (types-read all)
    (subst (λ (n : ℕ). (bind_front true n 0).Spells (f (map (λ p. type_read true p.named_type) ps)) after left) counted
    (front-again true true [] ps (λ e. omega (arith, e)) (λ e. absurd cc) fit left)) in
    subst (λ (text : List ℕ). query_attributes.Spells (map attribute_read all) text rest) (sym joined)
    (raw_int (length all), sets ++ after, count-again (length all) few (sets ++ after), (record { 0 = record {} }, after, one-byte _ after, (f (map attribute_type all), left, front, values-again nulls 0 all (λ i lt. second-bits [] ps i) fit rest)))

-- ---- the query

bytes-none : (b t : List ℕ) → b ++ [] ++ [] ++ [] ++ t ≡ b ++ ([] ++ (t ++ []))
bytes-none b t = simp append-nil refl

bytes-some : (b n s w t : List ℕ) → b ++ n ++ s ++ w ++ t ≡ b ++ (n ++ s ++ w ++ (t ++ []))
bytes-some b n s w t = simp (append-nil, append_assoc) refl

code : le_bytes 1 (server_command_code name.COM_QUERY) ≡ 3 ∷ []
unfolding le_bytes server_command_code
code = refl

bytes-are : (t : List ℕ) (o : Option (List QueryAttribute))
    → le_bytes 1 (server_command_code name.COM_QUERY) ++ count_bytes o ++ set_bytes o ++ where_some (list_of o) (some_bytes (sent_attributes (list_of o))) ++ t
    ≡ query.bytes (query_of (attributes_read o) t)
unfolding query
bytes-are t None = rw code (bytes-none (3 ∷ []) t)
bytes-are t (Some l) = rw code (bytes-some (3 ∷ []) (lenenc_bytes (length l)) (le_bytes 1 1) (where_some l (some_bytes (sent_attributes l))) t)

fits-are : (c : CapabilityFlags) (t : List ℕ) (o : Option (List QueryAttribute)) → sends_attributes c ≡ is_some o → AttributesFit o
    → query.fits c (query_of (attributes_read o) t) []
unfolding query
fits-are c t None agreed h = (tt, (agreed, (refl, tt)))
fits-are c t (Some l) agreed h = (tt, ((agreed, attributes-again l h.0 h.1 _), (refl, tt)))

bytes-same : (q : ComQuery QueryAttribute) → query.bytes (query_read q) ++ [] ≡ sent_bytes q
unfolding query_bytes
bytes-same q = append-nil (query.bytes (query_read q)) ∙ sym (bytes-are (sent.text q) (sent.attributes q))

query-fits : (c : CapabilityFlags) (q : ComQuery QueryAttribute) → SentQueryFits c q → query.fits c (query_read q) []
query-fits c q fits = fits-are c (sent.text q) (sent.attributes q) fits.agreed fits.attributes

pub query-spelled : (c : CapabilityFlags) (q : ComQuery QueryAttribute) → SentQueryFits c q → (query.form c).Spells (query_read q) (sent_bytes q) []
query-spelled c q fits =
    subst (λ (text : List ℕ). (query.form c).Spells (query_read q) text []) (bytes-same q) (query.again c (query_read q) [] (query-fits c q fits))

pub query-reads : (c : CapabilityFlags) (q : ComQuery QueryAttribute) → SentQueryFits c q → (query.form c).reads (sent_bytes q) ≡ Ok (query_read q, [])
query-reads c q fits = (query.form c).only (query_read q) (sent_bytes q) [] (query-spelled c q fits)

-- among all commands
pub sent-spelled : (c : CapabilityFlags) (q : ComQuery QueryAttribute) → SentQueryFits c q → (command c).Spells (variant.Query (query_read q)) (sent_bytes q) []
unfolding command_bytes CommandFits
sent-spelled c q fits =
    subst (λ (text : List ℕ). (command c).Spells (variant.Query (query_read q)) text []) (bytes-same q) (command-again c (variant.Query (query_read q)) [] (query-fits c q fits))

pub sent-reads : (c : CapabilityFlags) (q : ComQuery QueryAttribute) → SentQueryFits c q → (command c).reads (sent_bytes q) ≡ Ok (variant.Query (query_read q), [])
sent-reads c q fits = (command c).only (variant.Query (query_read q)) (sent_bytes q) [] (sent-spelled c q fits)

pub ruleset queries_again = (query-spelled, query-reads, sent-spelled, sent-reads)

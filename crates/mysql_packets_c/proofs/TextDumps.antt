-- The bytes of a request with the sids of a text.
use Rattle.std.proofs.Common.{◌≡◌, ℕ, ◌+◌, ◌-◌, ◌^◌, ◌<◌, List, [], ◌∷◌, ◌++◌, drop, length, map, min, Option, Some, None, Bool, true, false, refl, sym, ap, ◌∙◌, arith, append_assoc, length-append}
use Rattle.std.specs.Char.{to_ascii_lowercase}
use Rattle.std.specs.List.{flat_map}
use Rattle.std.proofs.lemmas.List.{append-nil, drop-drop, length-map}
use Rattle.mysql_repl.specs.SidBlock.{head_for}
use Rattle.mysql_repl.specs.TagString.{tag_bytes}
use Rattle.mysql_wire.specs.LittleEndian.{length-le_bytes}
use Rattle.mysql_wire.specs.Writing.{le_bytes, saturated}
use Rattle.mysql_repl.specs.GtidSetEntries.{Entry, lower_tag}
use Rattle.mysql_packets_c.specs.GtidEntries.{entries_block, entries_content, entry_bytes}

pub lower-each : (text : List ℕ) → flat_map (λ c. to_ascii_lowercase c ∷ []) text ≡ map to_ascii_lowercase text
lower-each [] = refl
lower-each (c ∷ cs) = ap (λ (l : List ℕ). to_ascii_lowercase c ∷ l) (lower-each cs)

pub lower-tag : (tag : Option (List ℕ)) → map to_ascii_lowercase (tag_bytes tag) ≡ tag_bytes (lower_tag tag)
lower-tag None = refl
lower-tag (Some text) = refl

pub ruleset parts = (append-nil, length-map, lower-each, lower-tag)

pub block-written : (list : List Entry) (tagged : Bool) (count len head : ℕ) → head ≡ head_for tagged count → len ≡ min (min (saturated (length (flat_map (entry_bytes tagged) list)) + 8) (2 ^ 64 - 1)) 4294967295
    → le_bytes 4 len ++ (le_bytes 8 head ++ (flat_map (entry_bytes tagged) list ++ [])) ≡ entries_block tagged count list
unfolding saturated
block-written list tagged count len head is long =
    let bytes = flat_map (entry_bytes tagged) list in
    let many : len ≡ min (length (entries_content tagged count list)) 4294967295 = omega (arith, long, length-append (le_bytes 8 (head_for tagged count)) bytes, length-le_bytes 8 (head_for tagged count)) in
    rw (is, many, append-nil) refl

-- ---- in order

module _ (bytes_of : Entry → List ℕ) (left more : List Entry) (e : Entry) (split : left ≡ e ∷ more) where
  parts-left : flat_map bytes_of left ≡ bytes_of e ++ flat_map bytes_of more
  parts-left = ap (flat_map bytes_of) split

  pub total-next : (total len sum all : ℕ) → len ≡ saturated (length (bytes_of e)) → sum ≡ min (total + len) (2 ^ 64 - 1) → saturated (total + length (flat_map bytes_of left)) ≡ saturated all
      → saturated (sum + length (flat_map bytes_of more)) ≡ saturated all
  unfolding saturated
  total-next total len sum all one added so_far =
      let long = ap length parts-left ∙ length-append (bytes_of e) (flat_map bytes_of more) in
      omega (arith, one, added, so_far, long)

  pub held-next : (held now all : List ℕ) → now ≡ held ++ bytes_of e → held ++ flat_map bytes_of left ≡ all → now ++ flat_map bytes_of more ≡ all
  held-next held now all put so_far =
      ap (λ (l : List ℕ). l ++ flat_map bytes_of more) put ∙ append_assoc held (bytes_of e) (flat_map bytes_of more) ∙ ap (λ (l : List ℕ). held ++ l) (sym parts-left) ∙ so_far

  pub after-next : (places now : List ℕ) (all : List ℕ) → now ≡ drop (length (bytes_of e)) places → drop (length (flat_map bytes_of left)) places ≡ all → drop (length (flat_map bytes_of more)) now ≡ all
  after-next places now all put so_far =
      let long : length (bytes_of e) + length (flat_map bytes_of more) ≡ length (flat_map bytes_of left) = omega (arith, ap length parts-left, length-append (bytes_of e) (flat_map bytes_of more)) in
      ap (drop (length (flat_map bytes_of more))) put ∙ drop-drop (length (flat_map bytes_of more)) (length (bytes_of e)) places ∙ ap (λ (n : ℕ). drop n places) long ∙ so_far

  pub left-shorter : length more < length left
  left-shorter = omega (arith, ap length split)

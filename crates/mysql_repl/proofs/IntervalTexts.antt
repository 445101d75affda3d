-- The texts of intervals between colons.
use Rattle.std.proofs.Common.{◌≡◌, ℕ, ◌+◌, ◌≤◌, List, ◌∷◌, length, take, Result, refl, sym, ap, ◌∙◌}
use Rattle.std.specs.List.{count_by}
use Rattle.std.proofs.lemmas.List.{length-map, take_all}
use Rattle.std.proofs.lemmas.List.Splits.{length-slice_split}
use Rattle.std.proofs.lemmas.List.Sums.{count_by-le-length, count_by_more_yes, count_by_more_no}
use Rattle.mysql_repl.specs.declared.gno_interval.GnoInterval.{GnoInterval}
use Rattle.mysql_repl.specs.declared.sid_text.InvalidSid.{InvalidSid}
use Rattle.mysql_repl.specs.SidText.{colon, is, parts_of, read_each, read_interval}

pub next-read : (all parts : List (List ℕ)) (part : List ℕ) (read : Result GnoInterval InvalidSid) → all ≡ part ∷ parts → read ≡ read_interval part → read_each all ≡ read ∷ read_each parts
next-read all parts part read e r = rw (e, r) refl

pub ruleset next_reads = (next-read)

-- after all bytes there is one more part than there are colons
pub parts-counted : (text items : List ℕ) (n i : ℕ) → n ≡ count_by (is colon) (take i items) → items ≡ text → length items ≤ i → n + 1 ≡ length (parts_of text)
unfolding parts_of
parts-counted text items n i e same all =
    ap (λ (k : ℕ). k + 1) (e ∙ ap (λ (bs : List ℕ). count_by (is colon) bs) (take_all i items all ∙ same)) ∙ sym (length-slice_split (is colon) text)

pub each-counted : (parts : List (List ℕ)) (n : ℕ) → n ≡ length parts → n ≡ length (read_each parts)
each-counted parts n e = e ∙ sym (length-map parts read_interval)

pub ruleset counts = (parts-counted, each-counted, count_by-le-length, count_by_more_yes, count_by_more_no)

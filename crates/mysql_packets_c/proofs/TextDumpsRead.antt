-- A request with a text of sids is written like the request with the sids read from it.
use Rattle.std.proofs.Common.{◌≡◌, ℕ, ◌%◌, ◌^◌, List, [], ◌∷◌, ◌++◌, length, map, Option, Some, None, is_some, Result, Ok, Err, Bool, true, false, not, nat_lt, ◌==◌, refl, sym, ap, subst, ◌∙◌, arith, append_assoc}
use Rattle.std.specs.List.{flat_map, list_any}
use Rattle.std.proofs.lemmas.Bool.Decides.{nat_tests}
use Rattle.std.proofs.lemmas.List.{append-nil}
use Rattle.mysql_repl.proofs.GtidEntriesRead.{entries-counted, entries-read}
use Rattle.mysql_repl.specs.BinlogDumpGtid.{gtid_dump, gtid_dump_head}
use Rattle.mysql_repl.specs.GnoInterval.{interval}
use Rattle.mysql_repl.specs.GtidSetEntries.{Entry, alone, counts, lower_tag, sids_of, text_entries, with_entry}
use Rattle.mysql_repl.specs.GtidSetText.{Found, read_sids}
use Rattle.mysql_repl.specs.Sid as sids
use Rattle.mysql_repl.specs.Sid.{intervals, sid_as}
use Rattle.mysql_repl.specs.SidBlock as block
use Rattle.mysql_repl.specs.declared.binlog_dump_gtid.ComBinlogDumpGtid.{ComBinlogDumpGtid}
use Rattle.mysql_repl.specs.declared.gno_interval.GnoInterval.{GnoInterval}
use Rattle.mysql_repl.specs.declared.gtid_set_entries.GtidSetEntry.{GtidSetEntry}
use Rattle.mysql_repl.specs.declared.gtid_set_entries.GtidSetEntry.TheVariants as entry
use Rattle.mysql_repl.specs.declared.sid.Sid.{Sid}
use Rattle.mysql_repl.specs.declared.sid_text.InvalidSid.{InvalidSid}
use Rattle.mysql_packets_c.specs.GtidDump.{dump_with}
use Rattle.mysql_packets_c.specs.GtidEntries.{head_bytes, entry_bytes, entries_content, entries_dump, is_refused, has_tag, heads}
use Rattle.mysql_packets_c.specs.GtidText.{PutsSpelled}
use Rattle.mysql_packets_c.specs.Output.{PutsUnlessTooLong}
use Rattle.mysql_packets_c.specs.TextDump.{IsLayout}
use Rattle.mysql_packets_c.specs.declared.gtid_dump.CGtidDump.{CGtidDump}
use Rattle.mysql_packets_c.specs.declared.text_dump.Layout.{Layout}

abbrev lengths : List Sid → List ℕ
lengths found = map (λ s. length (intervals s)) found

-- ---- in order

-- the intervals before the first sid, and the sids
record ReadsAs (list : List Entry) (is : List GnoInterval) (found : List Sid) : Type 0 where
  pub read : list_any is_refused list ≡ false
  pub many : heads list ≡ length found
  pub tags : list_any has_tag list ≡ block.any_tag found
  pub bytes : (t : Bool) → flat_map (entry_bytes t) list ≡ flat_map interval.bytes is ++ flat_map (sid_as t).bytes found

abbrev Shown : List Entry → Result Found InvalidSid → Type 0
Shown list (Ok found) = counts list ≡ lengths found.1 → ReadsAs list found.0 found.1
Shown list (Err e) = list_any is_refused list ≡ true

sid-bytes : (t : Bool) (s : Sid) → (sid_as t).bytes s ≡ head_bytes t (sids.uuid s) (sids.tag s) (length (intervals s)) ++ flat_map interval.bytes (intervals s)
unfolding sids.sid sids.tagged_sid
sid-bytes true s = simp (append-nil, append_assoc) refl
sid-bytes false s = simp (append-nil, append_assoc) refl

sid-first : (t : Bool) (s : Sid) (n : ℕ) (more : List ℕ) → n ≡ length (intervals s)
    → head_bytes t (sids.uuid s) (sids.tag s) n ++ (flat_map interval.bytes (intervals s) ++ more) ≡ (sid_as t).bytes s ++ more
sid-first t s n more count =
    ap (λ (k : ℕ). head_bytes t (sids.uuid s) (sids.tag s) k ++ (flat_map interval.bytes (intervals s) ++ more)) count
    ∙ sym (append_assoc (head_bytes t (sids.uuid s) (sids.tag s) (length (intervals s))) (flat_map interval.bytes (intervals s)) more)
    ∙ ap (λ (l : List ℕ). l ++ more) (sym (sid-bytes t s))

there-lower : (tag : Option (List ℕ)) → is_some (lower_tag tag) ≡ is_some tag
there-lower None = refl
there-lower (Some text) = refl

step : (x : GtidSetEntry) (more : List Entry) (r : Result Found InvalidSid) → Shown more r → Shown (Ok x ∷ more) (with_entry x r)
unfolding block.any_tag
step x more (Err e) h = h
step (entry.Interval i) more (Ok found) h =
    λ counted.
    let m = h counted in
    record {
      read = m.read;
      many = omega (arith, m.many);
      tags = m.tags;
      bytes = λ t. ap (λ (l : List ℕ). interval.bytes i ++ l) (m.bytes t) ∙ sym (append_assoc (interval.bytes i) (flat_map interval.bytes found.0) (flat_map (sid_as t).bytes found.1));
    }
step (entry.Sid s) more (Ok found) h =
    λ counted.
    let its : s.intervals ≡ length found.0 = cc in
    let others : counts more ≡ lengths found.1 = cc in
    let m = h others in
    let one : Sid = record { uuid = s.uuid; tag = lower_tag s.tag; intervals = found.0 } in
    record {
      read = m.read;
      many = omega (arith, m.many);
      tags = rw (m.tags, there-lower s.tag) refl;
      bytes = λ t. ap (λ (l : List ℕ). head_bytes t s.uuid (lower_tag s.tag) s.intervals ++ l) (m.bytes t) ∙ sid-first t one s.intervals (flat_map (sid_as t).bytes found.1) its;
    }

shown : (list : List Entry) → Shown list (sids_of list)
unfolding block.any_tag
shown [] = λ counted. record { read = refl; many = refl; tags = refl; bytes = λ t. refl }
shown (Err e ∷ more) = refl
shown (Ok x ∷ more) = step x more (sids_of more) (shown more)

abbrev ReadAs : List Entry → Result (List Sid) InvalidSid → Type 0
ReadAs list (Ok found) = ReadsAs list [] found
ReadAs list (Err e) = list_any is_refused list ≡ true

read-as : (list : List Entry) (r : Result (List Sid) InvalidSid) (f : Result Found InvalidSid) → f ≡ alone r → ((found : List Sid) → r ≡ Ok found → counts list ≡ lengths found) → Shown list f → ReadAs list r
read-as list (Ok found) f is counted h = (subst (Shown list) is h) (counted found refl)
read-as list (Err e) f is counted h = subst (Shown list) is h

text-shown : (text : List ℕ) → ReadAs (text_entries text) (read_sids text)
text-shown text = read-as (text_entries text) (read_sids text) (sids_of (text_entries text)) (entries-read text) (entries-counted text) (shown (text_entries text))

-- ---- the request

some-sid : (n : ℕ) → nat_lt 0 n ≡ not (n == 0)
some-sid n = grind (arith, nat_tests)

head-modulo : (t : Bool) (n : ℕ) → block.head_for t (n % 2 ^ 64) ≡ block.head_for t n
unfolding block.head_for
head-modulo true n = let e : n % 2 ^ 64 % 2 ^ 48 ≡ n % 2 ^ 48 = omega arith in rw e refl
head-modulo false n = omega arith

content-shown : (list : List Entry) (found : List Sid) (l : Layout) → ReadsAs list [] found → IsLayout l list → entries_content l.tagged l.count list ≡ block.content found
unfolding block.content
content-shown list found l h is =
    let t : l.tagged ≡ block.any_tag found = is.tagged ∙ h.tags in
    let n : l.count ≡ length found % 2 ^ 64 = is.count ∙ ap (λ (k : ℕ). k % 2 ^ 64) h.many in
    rw (t, n, head-modulo (block.any_tag found) (length found), h.bytes (block.any_tag found)) refl

dump-shown : (c : CGtidDump) (list : List Entry) (found : List Sid) (l : Layout) → ReadsAs list [] found → IsLayout l list → entries_dump c l.some l.tagged l.count list ≡ gtid_dump.bytes (dump_with c found)
unfolding gtid_dump gtid_dump_head block.block_bytes
dump-shown c list found l h is =
    let some : l.some ≡ not (length found == 0) = is.some ∙ ap (nat_lt 0) h.many ∙ some-sid (length found) in
    rw (some, content-shown list found l h is) (simp (append-nil, append_assoc) refl)

put-read : (r : Result (List Sid) InvalidSid) (list : List Entry) (c : CGtidDump) (l : Layout) (code : ℕ) (old new : List ℕ) (written : ℕ) → ReadAs list r → IsLayout l list
    → PutsUnlessTooLong (entries_dump c l.some l.tagged l.count list) code old new written → PutsSpelled r (dump_with c) code old new written
put-read (Ok found) list c l code old new written h is puts = subst (λ (bytes : List ℕ). PutsUnlessTooLong bytes code old new written) (dump-shown c list found l h is) puts
put-read (Err e) list c l code old new written h is puts = let no = is.read in absurd cc

pub spelled-put : (text : List ℕ) (c : CGtidDump) (l : Layout) (code : ℕ) (old new : List ℕ) (written : ℕ) → IsLayout l (text_entries text)
    → PutsUnlessTooLong (entries_dump c l.some l.tagged l.count (text_entries text)) code old new written → PutsSpelled (read_sids text) (dump_with c) code old new written
spelled-put text c l code old new written is puts = put-read (read_sids text) (text_entries text) c l code old new written (text-shown text) is puts

refused-read : (r : Result (List Sid) InvalidSid) (list : List Entry) (dump_of : List Sid → ComBinlogDumpGtid) (old : List ℕ) → ReadAs list r → list_any is_refused list ≡ true → PutsSpelled r dump_of 2 old old 0
refused-read (Ok found) list dump_of old h refuses = let no = h.read in absurd cc
refused-read (Err e) list dump_of old h refuses = record { code = refl; buffer = refl; none = refl }

pub spelled-refused : (text : List ℕ) (dump_of : List Sid → ComBinlogDumpGtid) (old : List ℕ) → list_any is_refused (text_entries text) ≡ true → PutsSpelled (read_sids text) dump_of 2 old old 0
spelled-refused text dump_of old refuses = refused-read (read_sids text) (text_entries text) dump_of old (text-shown text) refuses

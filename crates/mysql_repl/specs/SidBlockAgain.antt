-- A written block is read back, by either reader.
use Rattle.std.specs.Prelude.{◌≡◌, ℕ, ◌+◌, ◌*◌, ◌/◌, ◌%◌, ◌<◌, ◌≤◌, ◌^◌, List, [], ◌∷◌, ◌++◌, length, min, take, Some, Bool, true, false, if◌then◌else◌, refl}
use Rattle.std.specs.List.{flat_map}
use Rattle.std.proofs.Common.{arith, subst}
use Rattle.std.proofs.lemmas.Bool.{eq-eqb, ne_eqb, le-ltb}
use Rattle.std.proofs.lemmas.List.{append-nil, length-append, take_all}
use Rattle.mysql_wire.specs.BytesAgain.{u32_string-again}
use Rattle.mysql_wire.specs.Codec.{Codec}
use Rattle.mysql_wire.specs.CodecFits.{each_fits}
use Rattle.mysql_wire.specs.CodecAgain.{counted-again}
use Rattle.mysql_wire.specs.CountedBytes.{u32_string, counted_bytes_of}
use Rattle.mysql_wire.specs.Int.{raw_int}
use Rattle.mysql_wire.specs.Seq.{counted}
use Rattle.mysql_wire.specs.Spelling.{IsSpelling, le_u64-again}
use Rattle.mysql_wire.specs.Writing.{le_bytes}
use Rattle.mysql_repl.specs.declared.sid.Sid.{Sid}
use Rattle.mysql_repl.specs.Sid.{sid_as, sid, tagged_sid}
use Rattle.mysql_repl.specs.SidBlock.{is_tagged, head_of, head_for, sids_form, block_form, any_tag, content, block_bytes, BlockFits}

-- each sid takes at least one byte
some-bytes : (tagged : Bool) (s : Sid) (rest : List ℕ) → (sid_as tagged).fits tt s rest → 0 < length ((sid_as tagged).bytes s)
unfolding sid tagged_sid
some-bytes true s rest h = rw (tagged_sid.exact tt s rest h) (omega arith)
some-bytes false s rest h = rw (sid.exact tt s rest h) (omega arith)

few : (tagged : Bool) (sids : List Sid) → each_fits (sid_as tagged) tt sids [] → length sids ≤ length (flat_map (sid_as tagged).bytes sids)
few tagged [] h = omega arith
few tagged (s ∷ sids) h =
    omega (arith, length-append ((sid_as tagged).bytes s) (flat_map (sid_as tagged).bytes sids), some-bytes tagged s _ h.0, few tagged sids h.1)

-- ---- the head

head-small : (tagged : Bool) (n : ℕ) → n < 2 ^ 32 → head_for tagged n < 2 ^ 64
unfolding head_for
head-small true n lt = omega (arith, lt)
head-small false n lt = omega (arith, lt)

head-layout : (tagged : Bool) (n : ℕ) → n < 2 ^ 32 → is_tagged (head_for tagged n) ≡ tagged
unfolding head_for
head-layout true n lt = eq-eqb _ 1 (omega (arith, lt))
head-layout false n lt = ne_eqb _ 1 (λ e. omega (arith, lt, e))

head-known : (strict tagged : Bool) (n : ℕ) → n < 2 ^ 32 → head_of strict (head_for tagged n) ≡ Some (head_for tagged n)
unfolding head_for
head-known true true n lt = rw (le-ltb 1 ((2 ^ 56 + 2 ^ 8 * (n % 2 ^ 48)) / 2 ^ 56) (omega (arith, lt))) refl
head-known true false n lt = rw (le-ltb 1 (n % 2 ^ 56 / 2 ^ 56) (omega (arith, lt))) refl
head-known false tagged n lt = refl

count-tagged : (n : ℕ) → n < 2 ^ 32 → head_for true n / 2 ^ 8 % 2 ^ 48 ≡ n
unfolding head_for
count-tagged n lt = omega (arith, lt)

count-plain : (n : ℕ) → n < 2 ^ 32 → head_for false n % 2 ^ 56 ≡ n
unfolding head_for
count-plain n lt = omega (arith, lt)

count-as : (tagged : Bool) (n : ℕ) → n < 2 ^ 32 → (if tagged then head_for tagged n / 2 ^ 8 % 2 ^ 48 else head_for tagged n % 2 ^ 56) ≡ n
count-as true n lt = count-tagged n lt
count-as false n lt = count-plain n lt

-- ---- the block

sids-again : (strict : Bool) (sids : List Sid) → BlockFits sids → (sids_form strict).Spells sids (content sids) []
unfolding sids_form content
sids-again strict sids h =
    let tagged = any_tag sids in
    let head = head_for tagged (length sids) in
    let all = flat_map (sid_as tagged).bytes sids in
    let fewer : length sids < 2 ^ 32 = omega (arith, few tagged sids h.1, h.0, length-append (le_bytes 8 head) all) in
    let rest : (counted (length sids) ((sid_as tagged).form tt)).Spells sids all [] =
    subst (λ (t : List ℕ). (counted (length sids) ((sid_as tagged).form tt)).Spells sids t []) (append-nil all) (counted-again (sid_as tagged) tt sids [] h.1) in (
      head,
      all,
      (head, head-known strict tagged (length sids) fewer, (raw_int head, refl, le_u64-again head (head-small tagged (length sids) fewer) all)),
      rw (head-layout tagged (length sids) fewer, count-as tagged (length sids) fewer) rest,
    )

string-again : (bytes : List ℕ) → length bytes < 2 ^ 32 → IsSpelling u32_string bytes (le_bytes 4 (min (length bytes) 4294967295) ++ bytes)
unfolding counted_bytes_of
string-again bytes lt =
    let whole : take 4294967295 bytes ≡ bytes = take_all 4294967295 bytes (omega (arith, lt)) in
    let least : min (length bytes) 4294967295 ≡ length bytes = omega (arith, lt) in
    rw least (rw whole at (u32_string-again bytes lt))

pub block-again : (strict : Bool) (sids : List Sid) (rest : List ℕ) → BlockFits sids → (block_form strict).Spells sids (block_bytes sids ++ rest) rest
unfolding block_form block_bytes
block-again true sids rest h = (content sids, string-again (content sids) h.0 rest, sids-again true sids h)
block-again false sids rest h = (content sids, [], string-again (content sids) h.0 rest, sids-again false sids h)

-- a block after its length; the reader gets whether it is strict
abbrev pub sid_block : Codec Bool (List Sid)
sid_block = record {
  form = block_form;
  bytes = block_bytes;
  len = λ sids. length (block_bytes sids);
  fits = λ strict sids rest. BlockFits sids;
  exact = λ strict sids rest h. refl;
  again = block-again;
}

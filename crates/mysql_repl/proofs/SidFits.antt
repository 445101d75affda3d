-- The plain conditions on sids are enough for the round trip.
use Rattle.std.proofs.Common.{◌≡◌, ◌<◌, ◌^◌, ℕ, List, [], ◌∷◌, length, Option, Some, None, is_some, Bool, true, false, nat_lt, if◌then◌else◌, refl}
use Rattle.std.specs.List.{list_any}
use Rattle.std.proofs.lemmas.Bool.{or_parts}
use Rattle.mysql_wire.specs.CodecFits.{each_fits}
use Rattle.mysql_wire.specs.CountedBytes.{u32_string}
use Rattle.mysql_wire.specs.FormLaws.{whole-beginning}
use Rattle.mysql_repl.specs.declared.gno_interval.GnoInterval.{GnoInterval}
use Rattle.mysql_repl.specs.declared.sid.Sid.{Sid}
use Rattle.mysql_repl.specs.declared.binlog_dump_gtid.ComBinlogDumpGtid.{ComBinlogDumpGtid}
use Rattle.mysql_repl.specs.GnoInterval.{interval}
use Rattle.mysql_repl.specs.Sid.{sid, tagged_sid, sid_as, IsSid, AreSids, AreIntervals}
use Rattle.mysql_repl.specs.SidBlock.{layout, head_of, sids_form, block_form, has_tag, any_tag, content, BlockFits}
use Rattle.mysql_repl.specs.BinlogDumpGtid.{gtid_dump, gtid_dump_head, GtidDumpFits}

intervals-fit : (is : List GnoInterval) (rest : List ℕ) → AreIntervals is → each_fits interval tt is rest
unfolding interval
intervals-fit [] rest h = tt
intervals-fit (i ∷ is) rest h = ((h.0, (h.1, tt)), intervals-fit is rest h.2)

pub sid-fits : (s : Sid) (rest : List ℕ) → IsSid s → s.tag ≡ None → sid.fits tt s rest
unfolding sid
sid-fits s rest h e = (h.uuid, (e, ((h.count, intervals-fit s.intervals rest h.numbers), tt)))

pub tagged_sid-fits : (s : Sid) (rest : List ℕ) → IsSid s → tagged_sid.fits tt s rest
unfolding tagged_sid
tagged_sid-fits s rest h = (h.uuid, (h.tag, ((h.count, intervals-fit s.intervals rest h.numbers), tt)))

tagged-fit : (sids : List Sid) → AreSids sids → each_fits tagged_sid tt sids []
tagged-fit [] h = tt
tagged-fit (s ∷ sids) h = (tagged_sid-fits s _ h.0, tagged-fit sids h.1)

no_tag : (tag : Option (List ℕ)) → is_some tag ≡ false → tag ≡ None
no_tag None h = refl
no_tag (Some t) h = absurd cc

plain-fit : (sids : List Sid) → AreSids sids → list_any has_tag sids ≡ false → each_fits sid tt sids []
plain-fit [] h e = tt
plain-fit (s ∷ sids) h e = let p = or_parts (has_tag s) (list_any has_tag sids) e in (sid-fits s _ h.0 (no_tag s.tag p.0), plain-fit sids h.1 p.1)

fit-as : (tagged : Bool) (sids : List Sid) → AreSids sids → any_tag sids ≡ tagged → each_fits (sid_as tagged) tt sids []
unfolding any_tag
fit-as true sids h e = tagged-fit sids h
fit-as false sids h e = plain-fit sids h e

block-fits : (sids : List Sid) → AreSids sids → length (content sids) < 2 ^ 32 → BlockFits sids
block-fits sids h short = (short, fit-as (any_tag sids) sids h refl)

pub gtid_dump-fits : (strict : Bool) (p : ComBinlogDumpGtid) (rest : List ℕ) → GtidDumpFits p → gtid_dump.fits strict p rest
unfolding gtid_dump gtid_dump_head
gtid_dump-fits strict p rest h = ((tt, (h.flags, (h.server_id, tt))), (h.filename, (h.pos, (block-fits p.sid_block h.sids h.block, tt))))

-- ---- the other reader agrees with the strict one

known-step : (unknown : Bool) (x head : ℕ) → (if unknown then None else Some x) ≡ Some head → Some x ≡ Some head
known-step true x head e = absurd cc
known-step false x head e = e

known : (x head : ℕ) → head_of true x ≡ Some head → head_of false x ≡ Some head
known x head e = known-step (nat_lt 1 (layout x)) x head e

strict-lenient : (sids : List Sid) (bytes rest : List ℕ) → (block_form true).Spells sids bytes rest → (block_form false).Spells sids bytes rest
unfolding block_form sids_form
strict-lenient sids bytes rest s =
    whole-beginning u32_string (sids_form false) sids bytes rest (s.0, s.1, (s.2.0, s.2.1, (s.2.2.0, known _ _ s.2.2.1, s.2.2.2), s.2.3))

pub strict-is_lenient : (p : ComBinlogDumpGtid) (bytes rest : List ℕ) → (gtid_dump.form true).Spells p bytes rest → (gtid_dump.form false).Spells p bytes rest
unfolding gtid_dump gtid_dump_head
strict-is_lenient p bytes rest s =
    let names = s.3 in
    let positions = names.3 in
    let blocks = positions.3 in
    (s.0, s.1, s.2, (names.0, names.1, names.2, (positions.0, positions.1, positions.2, (blocks.0, blocks.1, strict-lenient _ _ _ blocks.2, blocks.3))))

pub ruleset sid_fits = (sid-fits, tagged_sid-fits, gtid_dump-fits, strict-is_lenient)

-- The results for texts of GTID sets.
use Rattle.std.proofs.Common.{◌≡◌, ℕ, List, Ok, Some, None, Bool, true, false, refl, sym, subst, ◌∙◌, ◌⊎◌, inl, inr}
use Rattle.std.specs.List.{list_all}
use Rattle.std.specs.Prelude.{is_some}
use Rattle.mysql_packets_c.proofs.WrittenSids.{all-held, none-held}
use Rattle.mysql_repl.specs.BinlogDumpGtid.{sids}
use Rattle.mysql_repl.specs.GtidSetWritten.{set_text}
use Rattle.mysql_repl.specs.declared.binlog_dump_gtid.ComBinlogDumpGtid.{ComBinlogDumpGtid}
use Rattle.mysql_repl.specs.declared.sid.Sid.{Sid}
use Rattle.mysql_wire.specs.declared.fault.FaultOf.{FaultOf}
use Rattle.mysql_wire.specs.declared.fault.FaultOf.TheVariants as fault
use Rattle.mysql_wire.specs.Reading.{Reading, Faults}
use Rattle.mysql_packets_c.specs.Code.{fault_code}
use Rattle.mysql_packets_c.specs.GtidText.{PutsShown}
use Rattle.mysql_packets_c.specs.Output.{PutsUnlessTooLong}
use Rattle.mysql_packets_c.specs.Sid.{sids_held, sids_or, tag_held}
use Rattle.mysql_packets_c.specs.declared.sid.CSid.{CSid}

either_way : (b : Bool) → (b ≡ true) ⊎ (b ≡ false)
either_way true = inl refl
either_way false = inr refl

-- the stored sids
pub held-are : (list : List CSid) (held : List Sid) → sids_held list ≡ Some held → sids_or list ≡ held
held-are list held e =
    elim (either_way (list_all (λ s. is_some (tag_held s)) list)) [
      | inl tagged ↦ let h : Some (sids_or list) ≡ Some held = sym (all-held list tagged) ∙ e in cc
      | inr other ↦ let h : None ≡ Some held = sym (none-held list other) ∙ e in absurd cc
    ]

-- the text of a request
pub shown-put : (read : Reading ComBinlogDumpGtid) (p : ComBinlogDumpGtid) (rest : List ℕ) (code : ℕ) (old new : List ℕ) (written : ℕ)
    → read ≡ Ok (p, rest) → PutsUnlessTooLong (set_text (sids p)) code old new written → PutsShown read code old new written
shown-put read p rest code old new written e puts = subst (λ (r : _). PutsShown r code old new written) (sym e) puts

pub shown-fault : (read : Reading ComBinlogDumpGtid) (e : FaultOf) (old : List ℕ) → Faults false e read → PutsShown read (fault_code e) old old 0
shown-fault read fault.UnexpectedEof old h = subst (λ (r : _). PutsShown r 1 old old 0) (sym h) (record { code = refl; buffer = refl; none = refl })
shown-fault read (fault.InvalidData text) old h = subst (λ (r : _). PutsShown r 2 old old 0) (sym h) (record { code = refl; buffer = refl; none = refl })
shown-fault read (fault.InvalidInput text) old h = subst (λ (r : _). PutsShown r 3 old old 0) (sym h) (record { code = refl; buffer = refl; none = refl })
shown-fault read fault.Memory old h = absurd cc

pub ruleset texts = (held-are, shown-put, shown-fault)

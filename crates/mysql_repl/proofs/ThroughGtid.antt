-- BINLOG_THROUGH_GTID is set exactly for sids, and other flags are unchanged.
use Rattle.std.proofs.Common.{◌≡◌, ◌≢◌, ◌↔◌, ◌==◌, ℕ, ◌<◌, List, [], ◌∷◌, length, not, Bool, true, refl, sym, subst, arith}
use Rattle.std.specs.Int.{bit_at}
use Rattle.std.proofs.lemmas.Bool.{ne_eqb}
use Rattle.mysql_wire.specs.FlagMasks.{BINLOG_THROUGH_GTID}
use Rattle.mysql_wire.specs.Flags.{has, switched}
use Rattle.mysql_wire.proofs.FlagBits.{has-switched, bit-switched}
use Rattle.mysql_repl.specs.declared.sid.Sid.{Sid}
use Rattle.mysql_repl.specs.BinlogDumpGtid.{through_gtid}

some-sid : (list : List Sid) → (not (length list == 0) ≡ true) ↔ (list ≢ [])
some-sid [] = (λ e. absurd cc, λ some. absurd (some refl))
some-sid (s ∷ list) = (λ e none. absurd cc, λ some. rw (ne_eqb (length (s ∷ list)) 0 (λ e. omega (arith, e))) refl)

set-by : (on : Bool) (list : List Sid) (bits : ℕ) → (on ≡ true) ↔ (list ≢ []) → (has (switched 16 on BINLOG_THROUGH_GTID bits) BINLOG_THROUGH_GTID ≡ true) ↔ (list ≢ [])
set-by on list bits h = subst (λ (b : Bool). (b ≡ true) ↔ (list ≢ [])) (sym (has-switched 16 2 on bits (omega arith))) h

pub set-for-sids : (list : List Sid) (bits : ℕ) → (has (through_gtid list bits) BINLOG_THROUGH_GTID ≡ true) ↔ (list ≢ [])
set-for-sids list bits = set-by (not (length list == 0)) list bits (some-sid list)

pub others-kept : (list : List Sid) (bits i : ℕ) → i < 16 → i ≢ 2 → bit_at (through_gtid list bits) i ≡ bit_at bits i
others-kept list bits i below other = bit-switched 16 2 i (not (length list == 0)) bits (omega arith) below other

pub ruleset through_gtids = (set-for-sids, others-kept)

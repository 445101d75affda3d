-- A statement packet with numbers of their widths is read back; packets and bitmaps compare equal exactly if they are
-- the same.
use Rattle.std.proofs.Common.{◌≡◌, ◌↔◌, nat_eq, IsTrue, Decides, ℕ, List, ◌++◌, true, refl, subst}
use Rattle.std.proofs.lemmas.Bool.Decides.{Decides-and}
use Rattle.std.specs.Cmp.Lexicographic.{pointwise}
use Rattle.mysql_replies.proofs.Same.{and-true, numbers-same, bytes-same}
use Rattle.mysql_wire.specs.Codecs.{raw_int}
use Rattle.mysql_stmt.specs.contracts.close.ComStmtClosePartialEq.TheImpl as derived_close
use Rattle.mysql_stmt.specs.contracts.long_data.ComStmtSendLongDataPartialEq.TheImpl as derived_data
use Rattle.mysql_stmt.specs.contracts.stmt.StmtPacketPartialEq.TheImpl as derived
use Rattle.mysql_stmt.specs.declared.close.ComStmtClose.{ComStmtClose}
use Rattle.mysql_stmt.specs.declared.long_data.ComStmtSendLongData.{ComStmtSendLongData}
use Rattle.mysql_stmt.specs.declared.stmt.StmtPacket.{StmtPacket}
use Rattle.mysql_stmt.specs.Bitmap.{Bitmap}
use Rattle.mysql_stmt.specs.LongData.{long_data_of}
use Rattle.mysql_stmt.specs.Stmt.{stmt, StmtPacketFits}

pub stmt-plain : (p : StmtPacket) (rest : List ℕ) → StmtPacketFits p → (stmt.form tt).Spells p (stmt.bytes p ++ rest) rest
unfolding stmt
stmt-plain p rest h = stmt.again tt p rest (tt, (h.statement_id, (h.num_columns, (h.num_params, (tt, (h.warning_count, tt))))))

numbers-each : (a b : StmtPacket) → Decides (derived.ghosts.eq a b)
    ((a.statement_id.0 ≡ b.statement_id.0) × ((a.num_columns.0 ≡ b.num_columns.0) × ((a.num_params.0 ≡ b.num_params.0) × (a.warning_count.0 ≡ b.warning_count.0))))
numbers-each a b =
    Decides-and _ _ (and-true _ (numbers-same a.statement_id.0 b.statement_id.0)) (Decides-and _ _ (and-true _ (numbers-same a.num_columns.0 b.num_columns.0))
    (Decides-and _ _ (and-true _ (numbers-same a.num_params.0 b.num_params.0)) (and-true _ (numbers-same a.warning_count.0 b.warning_count.0))))

pub stmt_packets-same : (a b : StmtPacket) → IsTrue (derived.ghosts.eq a b) ↔ (a ≡ b)
stmt_packets-same a b = (
  λ e. let s = (numbers-each a b).0 e in λ i. record {
    status = record { 0 = record {} };
    statement_id = raw_int (s.0 i);
    num_columns = raw_int (s.1.0 i);
    num_params = raw_int (s.1.1.0 i);
    skipped = record {};
    warning_count = raw_int (s.1.1.1 i);
  },
  λ e. subst (λ (c : StmtPacket). derived.ghosts.eq a c ≡ true) e ((numbers-each a a).1 (refl, (refl, (refl, refl)))),
)

data-each : (a b : ComStmtSendLongData) → Decides (derived_data.ghosts.eq a b) ((a.stmt_id.0 ≡ b.stmt_id.0) × ((a.param_index.0 ≡ b.param_index.0) × (a.content ≡ b.content)))
data-each a b =
    Decides-and _ _ (and-true _ (numbers-same a.stmt_id.0 b.stmt_id.0)) (Decides-and _ _ (and-true _ (numbers-same a.param_index.0 b.param_index.0)) (bytes-same a.content b.content))

pub data-same : (a b : ComStmtSendLongData) → IsTrue (derived_data.ghosts.eq a b) ↔ (a ≡ b)
data-same a b = (
  λ e. let s = (data-each a b).0 e in λ i. long_data_of (s.0 i) (s.1.0 i) (s.1.1 i),
  λ e. subst (λ (c : ComStmtSendLongData). derived_data.ghosts.eq a c ≡ true) e ((data-each a a).1 (refl, (refl, refl))),
)

pub closes-same : (a b : ComStmtClose) → IsTrue (derived_close.ghosts.eq a b) ↔ (a ≡ b)
closes-same a b = (
  λ e. let s = (numbers-same a.stmt_id b.stmt_id).0 e in λ i. record { stmt_id = s i },
  λ e. subst (λ (c : ComStmtClose). derived_close.ghosts.eq a c ≡ true) e ((numbers-same a.stmt_id a.stmt_id).1 refl),
)

pub bitmaps-same : (a b : Bitmap) → IsTrue (pointwise nat_eq a.bytes b.bytes) ↔ (a.bytes ≡ b.bytes)
bitmaps-same a b = bytes-same a.bytes b.bytes

pub ruleset stmt_again = (stmt-plain, stmt_packets-same, data-same, closes-same, bitmaps-same)

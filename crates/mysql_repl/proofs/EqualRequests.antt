-- Requests and their parts compare equal exactly if they are equal.
use Rattle.std.proofs.Common.{◌≡◌, ◌&&◌, ℕ, List, true, nat_eq, Decides, IsTrue, refl, ap, subst}
use Rattle.std.proofs.lemmas.Bool.Decides.{Decides-and}
use Rattle.std.proofs.lemmas.Slice.Eq.{slice_eq-Decides}
use Rattle.std.specs.Cmp.{booleans_Decides}
use Rattle.std.specs.Cmp.Lexicographic.{pointwise}
use borrow.Author.Tests.{clash}
use Rattle.mysql_wire.proofs.Same.{and-true, numbers-same, bytes-same, options-same, parts-same}
use Rattle.mysql_repl.specs.contracts.binlog_dump.ComBinlogDumpPartialEq.TheImpl as derived_dump
use Rattle.mysql_repl.specs.contracts.binlog_dump_gtid.ComBinlogDumpGtidPartialEq.TheImpl as derived_gtid_dump
use Rattle.mysql_repl.specs.contracts.binlog_request.BinlogRequestPartialEq.TheImpl as derived_request
use Rattle.mysql_repl.specs.contracts.binlog_stream_event.BinlogStreamEventPartialEq.TheImpl as derived_event
use Rattle.mysql_repl.specs.contracts.binlog_stream_packet.BinlogStreamPacketPartialEq.TheImpl as derived_packet
use Rattle.mysql_repl.specs.contracts.gno_interval.GnoIntervalPartialEq.TheImpl as derived_interval
use Rattle.mysql_repl.specs.contracts.register_slave.ComRegisterSlavePartialEq.TheImpl as derived_registration
use Rattle.mysql_repl.specs.contracts.semi_sync_ack.SemiSyncAckPacketPartialEq.TheImpl as derived_ack
use Rattle.mysql_repl.specs.contracts.semi_sync_header.SemiSyncHeaderPartialEq.TheImpl as derived_header
use Rattle.mysql_repl.specs.contracts.sid.SidPartialEq.TheImpl as derived_sid
use Rattle.mysql_repl.specs.contracts.table_dump.ComTableDumpPartialEq.TheImpl as derived_table
use Rattle.mysql_repl.specs.declared.binlog_dump.ComBinlogDump.{ComBinlogDump}
use Rattle.mysql_repl.specs.declared.binlog_dump_gtid.ComBinlogDumpGtid.{ComBinlogDumpGtid}
use Rattle.mysql_repl.specs.declared.binlog_request.BinlogRequest.{BinlogRequest}
use Rattle.mysql_repl.specs.declared.binlog_stream_event.BinlogStreamEvent.{BinlogStreamEvent}
use Rattle.mysql_repl.specs.declared.binlog_stream_packet.BinlogStreamPacket.{BinlogStreamPacket}
use Rattle.mysql_repl.specs.declared.binlog_stream_packet.BinlogStreamPacket.TheVariants as stream
use Rattle.mysql_repl.specs.declared.gno_interval.GnoInterval.{GnoInterval}
use Rattle.mysql_repl.specs.declared.register_slave.ComRegisterSlave.{ComRegisterSlave}
use Rattle.mysql_repl.specs.declared.semi_sync_ack.SemiSyncAckPacket.{SemiSyncAckPacket}
use Rattle.mysql_repl.specs.declared.semi_sync_header.SemiSyncHeader.{SemiSyncHeader}
use Rattle.mysql_repl.specs.declared.sid.Sid.{Sid}
use Rattle.mysql_repl.specs.declared.table_dump.ComTableDump.{ComTableDump}
use Rattle.mysql_repl.specs.BinlogDump as dump
use Rattle.mysql_repl.specs.BinlogDumpGtid as gtid_dump
use Rattle.mysql_repl.specs.BinlogStreamEvent.{event_of}
use Rattle.mysql_repl.specs.GnoInterval.{interval_of}
use Rattle.mysql_repl.specs.SemiSyncAck.{ack_of}
use Rattle.mysql_repl.specs.TableDump as table_dump

-- ---- fields

-- a number in a field's wrapper type
number : (m n : ℕ) → Decides (nat_eq m n && true) (m ≡ n)
number m n = and-true _ (numbers-same m n)

-- ---- sets of transactions

pub intervals-same : (a b : GnoInterval) → Decides (derived_interval.ghosts.eq a b) (a ≡ b)
intervals-same =
    parts-same derived_interval.ghosts.eq (λ a b. (a.start ≡ b.start) × (a.end ≡ b.end))
    (λ a b. Decides-and _ _ (numbers-same a.start b.start) (numbers-same a.end b.end))
    (λ a b s i. interval_of (s.0 i) (s.1 i))
    (λ a. (refl, refl))

pub interval_lists : (xs ys : List GnoInterval) → Decides (pointwise derived_interval.ghosts.eq xs ys) (xs ≡ ys)
interval_lists xs ys = slice_eq-Decides intervals-same xs ys _ refl

pub sids-same : (a b : Sid) → Decides (derived_sid.ghosts.eq a b) (a ≡ b)
sids-same =
    parts-same derived_sid.ghosts.eq (λ a b. (a.uuid ≡ b.uuid) × ((a.tag ≡ b.tag) × (a.intervals ≡ b.intervals)))
    (λ a b. Decides-and _ _ (bytes-same a.uuid b.uuid) (Decides-and _ _ (options-same bytes-same a.tag b.tag) (interval_lists a.intervals b.intervals)))
    (λ a b s i. record { uuid = s.0 i; tag = s.1.0 i; intervals = s.1.1 i })
    (λ a. (refl, (refl, refl)))

pub sid_lists : (xs ys : List Sid) → Decides (pointwise derived_sid.ghosts.eq xs ys) (xs ≡ ys)
sid_lists xs ys = slice_eq-Decides sids-same xs ys _ refl

-- ---- requests

pub table_dumps-same : (a b : ComTableDump) → Decides (derived_table.ghosts.eq a b) (a ≡ b)
table_dumps-same =
    parts-same derived_table.ghosts.eq (λ a b. (a.database ≡ b.database) × (a.table ≡ b.table))
    (λ a b. Decides-and _ _ (bytes-same a.database b.database) (bytes-same a.table b.table))
    (λ a b s i. table_dump.dump_of (s.0 i) (s.1 i))
    (λ a. (refl, refl))

pub acks-same : (a b : SemiSyncAckPacket) → Decides (derived_ack.ghosts.eq a b) (a ≡ b)
acks-same =
    parts-same derived_ack.ghosts.eq (λ a b. (a.position.0 ≡ b.position.0) × (a.filename ≡ b.filename))
    (λ a b. Decides-and _ _ (number a.position.0 b.position.0) (bytes-same a.filename b.filename))
    (λ a b s i. ack_of (s.0 i) (s.1 i))
    (λ a. (refl, refl))

pub dumps-same : (a b : ComBinlogDump) → Decides (derived_dump.ghosts.eq a b) (a ≡ b)
dumps-same =
    parts-same derived_dump.ghosts.eq (λ a b. (a.pos.0 ≡ b.pos.0) × ((a.flags.0.0 ≡ b.flags.0.0) × ((a.server_id.0 ≡ b.server_id.0) × (a.filename ≡ b.filename))))
    (λ a b. Decides-and _ _ (number a.pos.0 b.pos.0) (Decides-and _ _ (and-true _ (number a.flags.0.0 b.flags.0.0))
    (Decides-and _ _ (number a.server_id.0 b.server_id.0) (bytes-same a.filename b.filename))))
    (λ a b s i. dump.dump_of (s.1.1.0 i) (s.0 i) (s.1.0 i) (s.1.1.1 i))
    (λ a. (refl, (refl, (refl, refl))))

pub gtid_dumps-same : (a b : ComBinlogDumpGtid) → Decides (derived_gtid_dump.ghosts.eq a b) (a ≡ b)
gtid_dumps-same =
    parts-same derived_gtid_dump.ghosts.eq
    (λ a b. (a.flags.0.0 ≡ b.flags.0.0) × ((a.server_id.0 ≡ b.server_id.0) × ((a.filename ≡ b.filename) × ((a.pos.0 ≡ b.pos.0) × (a.sid_block ≡ b.sid_block)))))
    (λ a b. Decides-and _ _ (and-true _ (number a.flags.0.0 b.flags.0.0)) (Decides-and _ _ (number a.server_id.0 b.server_id.0)
    (Decides-and _ _ (bytes-same a.filename b.filename) (Decides-and _ _ (number a.pos.0 b.pos.0) (sid_lists a.sid_block b.sid_block)))))
    (λ a b s i. gtid_dump.dump_of (s.1.0 i) (s.1.1.1.0 i) (s.0 i) (s.1.1.0 i) (s.1.1.1.1 i))
    (λ a. (refl, (refl, (refl, (refl, refl)))))

pub requests-same : (a b : BinlogRequest) → Decides (derived_request.ghosts.eq a b) (a ≡ b)
requests-same =
    parts-same derived_request.ghosts.eq
    (λ a b. (a.server_id ≡ b.server_id) × ((a.use_gtid ≡ b.use_gtid) × ((a.flags.0 ≡ b.flags.0) × ((a.filename ≡ b.filename) × ((a.pos ≡ b.pos) × (a.sids ≡ b.sids))))))
    (λ a b. Decides-and _ _ (numbers-same a.server_id b.server_id) (Decides-and _ _ (booleans_Decides a.use_gtid b.use_gtid)
    (Decides-and _ _ (number a.flags.0 b.flags.0) (Decides-and _ _ (bytes-same a.filename b.filename)
    (Decides-and _ _ (numbers-same a.pos b.pos) (sid_lists a.sids b.sids))))))
    (λ a b s i. record {
      server_id = s.0 i;
      use_gtid = s.1.0 i;
      flags = record { 0 = s.1.1.0 i; 1 = record {} };
      filename = s.1.1.1.0 i;
      pos = s.1.1.1.1.0 i;
      sids = s.1.1.1.1.1 i;
    })
    (λ a. (refl, (refl, (refl, (refl, (refl, refl))))))

pub registrations-same : (a b : ComRegisterSlave) → Decides (derived_registration.ghosts.eq a b) (a ≡ b)
registrations-same =
    parts-same derived_registration.ghosts.eq
    (λ a b. (a.server_id.0 ≡ b.server_id.0) × ((a.hostname ≡ b.hostname) × ((a.user ≡ b.user) × ((a.password ≡ b.password)
    × ((a.port.0 ≡ b.port.0) × ((a.replication_rank.0 ≡ b.replication_rank.0) × (a.master_id.0 ≡ b.master_id.0)))))))
    (λ a b. Decides-and _ _ (number a.server_id.0 b.server_id.0) (Decides-and _ _ (bytes-same a.hostname b.hostname)
    (Decides-and _ _ (bytes-same a.user b.user) (Decides-and _ _ (bytes-same a.password b.password) (Decides-and _ _ (number a.port.0 b.port.0)
    (Decides-and _ _ (number a.replication_rank.0 b.replication_rank.0) (number a.master_id.0 b.master_id.0)))))))
    (λ a b s i. record {
      header = record { 0 = record {} };
      server_id = record { 0 = s.0 i; 1 = record {} };
      hostname = s.1.0 i;
      user = s.1.1.0 i;
      password = s.1.1.1.0 i;
      port = record { 0 = s.1.1.1.1.0 i; 1 = record {} };
      replication_rank = record { 0 = s.1.1.1.1.1.0 i; 1 = record {} };
      master_id = record { 0 = s.1.1.1.1.1.1 i; 1 = record {} };
    })
    (λ a. (refl, (refl, (refl, (refl, (refl, (refl, refl)))))))

-- ---- packets of a stream

headers-same : (a b : SemiSyncHeader) → Decides (derived_header.ghosts.eq a b) (a ≡ b)
headers-same =
    parts-same derived_header.ghosts.eq (λ a b. a.flags.0 ≡ b.flags.0) (λ a b. number a.flags.0 b.flags.0)
    (λ a b s i. record { header = record { 0 = record {} }; flags = record { 0 = s i; 1 = record {} } })
    (λ a. refl)

events-same : (a b : BinlogStreamEvent) → Decides (derived_event.ghosts.eq a b) (a ≡ b)
events-same =
    parts-same derived_event.ghosts.eq (λ a b. (a.semi_sync ≡ b.semi_sync) × (a.event ≡ b.event))
    (λ a b. Decides-and _ _ (options-same headers-same a.semi_sync b.semi_sync) (bytes-same a.event b.event))
    (λ a b s i. event_of (s.0 i) (s.1 i))
    (λ a. (refl, refl))

stream-equals_itself : (a : BinlogStreamPacket) → IsTrue (derived_packet.ghosts.eq a a)
stream-equals_itself (stream.Event a) = (events-same a a).1 refl
stream-equals_itself (stream.End a) = (bytes-same a a).1 refl
stream-equals_itself (stream.Error a) = (bytes-same a a).1 refl

equal-stream : (a b : BinlogStreamPacket) → IsTrue (derived_packet.ghosts.eq a b) → a ≡ b
equal-stream (stream.Event a) (stream.Event b) e = ap stream.Event ((events-same a b).0 e)
equal-stream (stream.End a) (stream.End b) e = ap stream.End ((bytes-same a b).0 e)
equal-stream (stream.Error a) (stream.Error b) e = ap stream.Error ((bytes-same a b).0 e)
equal-stream _ _ e = absurd (clash e)

pub stream_packets-same : (a b : BinlogStreamPacket) → Decides (derived_packet.ghosts.eq a b) (a ≡ b)
stream_packets-same a b = (equal-stream a b, λ e. subst (λ (c : BinlogStreamPacket). IsTrue (derived_packet.ghosts.eq a c)) e (stream-equals_itself a))

pub ruleset equal_requests = (bytes-same, intervals-same, sids-same, interval_lists, sid_lists, stream_packets-same, table_dumps-same, acks-same, dumps-same, gtid_dumps-same, requests-same, registrations-same)

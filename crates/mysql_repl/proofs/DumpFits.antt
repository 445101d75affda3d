-- A dump by GTID set of less than 2^32 bytes is read back.
use Rattle.std.proofs.Common.{ℕ, ◌<◌, ◌^◌, ◌++◌, List, [], length, min, take, arith}
use Rattle.std.proofs.lemmas.List.{length-append, length-take}
use Rattle.mysql_wire.specs.CountedBytes.{counted_bytes_of, u32_string_bytes}
use Rattle.mysql_wire.specs.LittleEndian.{length-le_bytes}
use Rattle.mysql_wire.specs.Writing.{le_bytes}
use Rattle.mysql_repl.specs.declared.binlog_dump_gtid.ComBinlogDumpGtid.{ComBinlogDumpGtid}
use Rattle.mysql_repl.specs.BinlogDumpGtid.{gtid_dump, gtid_dump_head, filename, pos, sids}
use Rattle.mysql_repl.specs.SidBlock.{content, block_bytes}

-- the file's name is shorter than the packet
name-short : (name : List ℕ) → length (u32_string_bytes name) < 2 ^ 32 → length name < 2 ^ 32
unfolding counted_bytes_of
name-short name h =
    let cut = take 4294967295 name in
    let parts = length-append (le_bytes 4 (length cut)) cut in
    omega (arith, h, parts, length-le_bytes 4 (length cut), length-take 4294967295 name)

-- the name and the block are shorter than the dump
pub dump-parts : (p : ComBinlogDumpGtid) → length (gtid_dump.bytes p) < 2 ^ 32 → (length (filename p) < 2 ^ 32) × (length (content (sids p)) < 2 ^ 32)
unfolding gtid_dump gtid_dump_head block_bytes
dump-parts p h =
    let head = gtid_dump_head.bytes p in
    let name = u32_string_bytes (filename p) in
    let position = le_bytes 8 (pos p) in
    let block = block_bytes (sids p) in
    let whole : length (head ++ (name ++ (position ++ (block ++ [])))) < 2 ^ 32 = h in
    let one = length-append head (name ++ (position ++ (block ++ []))) in
    let two = length-append name (position ++ (block ++ [])) in
    let three = length-append position (block ++ []) in
    let four = length-append block [] in
    let inside = length-append (le_bytes 4 (min (length (content (sids p))) 4294967295)) (content (sids p)) in
    (name-short (filename p) (omega (arith, whole, one, two)), omega (arith, whole, one, two, three, four, inside))

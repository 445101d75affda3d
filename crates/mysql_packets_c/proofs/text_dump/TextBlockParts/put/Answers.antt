use Rattle.std.proofs.Common.{◌≡◌, ◌+◌, ◌-◌, ◌^◌, List, ℕ, length, min, sym, subst, arith}
use Rattle.std.specs.List.{flat_map}
use Rattle.mysql_wire.specs.Writing.{saturated}
use Rattle.mysql_repl.specs.GtidSetEntries.{text_entries}
use Rattle.mysql_packets_c.specs.GtidEntries.{entry_bytes}
use Rattle.mysql_packets_c.proofs.TextDumps.{block-written}
use Rattle.mysql_packets_c.proofs.text_dump.TextBlockParts.put.Goals as goal

pub part-requires : goal.part-requires
part-requires g c =
    let it = c.args.self.now in
    let list = text_entries it.text.now in
    let sized : c.defined_len.result ≡ saturated (length (flat_map (entry_bytes it.layout.tagged) list)) = c.defined_len.ensures in
    let len : c.new-len.result.0 ≡ min (min (saturated (length (flat_map (entry_bytes it.layout.tagged) list)) + 8) (2 ^ 64 - 1)) 4294967295 =
    omega (arith, sized, c.saturating_add-content_len.ensures, c.length_field.ensures, c.new-len.ensures) in
    let same = block-written list it.layout.tagged it.layout.count c.new-len.result.0 c.head_of.result.0 c.head_of.ensures len in
    subst (λ (l : List ℕ). g.S.Sink.capacity c.args.sink.now (length l)) (sym same) c.requires

pub returns : goal.returns
returns g c =
    let it = c.args.self.now in
    let list = text_entries it.text.now in
    let sized : c.defined_len.result ≡ saturated (length (flat_map (entry_bytes it.layout.tagged) list)) = c.defined_len.ensures in
    let len : c.new-len.result.0 ≡ min (min (saturated (length (flat_map (entry_bytes it.layout.tagged) list)) + 8) (2 ^ 64 - 1)) 4294967295 =
    omega (arith, sized, c.saturating_add-content_len.ensures, c.length_field.ensures, c.new-len.ensures) in
    let same = block-written list it.layout.tagged it.layout.count c.new-len.result.0 c.head_of.result.0 c.head_of.ensures len in
    record { value = subst (λ (l : List ℕ). g.S.Sink.took c.args.sink.now l c.part.new.self) same c.part.ensures }

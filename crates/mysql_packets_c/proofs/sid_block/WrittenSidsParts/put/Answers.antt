use Rattle.std.proofs.Common.{◌≡◌, ◌+◌, ◌-◌, ◌^◌, List, ℕ, length, min, sym, subst, arith}
use Rattle.std.specs.List.{flat_map}
use Rattle.mysql_repl.specs.Sid.{sid_as}
use Rattle.mysql_wire.specs.Writing.{saturated}
use Rattle.mysql_packets_c.specs.Sid.{sid_or}
use Rattle.mysql_packets_c.proofs.WrittenSids.{block-written}
use Rattle.mysql_packets_c.proofs.sid_block.WrittenSidsParts.put.Goals as goal

pub part-requires : goal.part-requires
part-requires g c =
    let sids = c.args.self.now.0.now in
    let tagged = c.any_tag-tagged.result in
    let sized : c.defined_len.result ≡ saturated (length (flat_map (λ s. (sid_as tagged).bytes (sid_or s)) sids)) = c.defined_len.ensures in
    let len : c.new-len.result.0 ≡ min (min (saturated (length (flat_map (λ s. (sid_as tagged).bytes (sid_or s)) sids)) + 8) (2 ^ 64 - 1)) 4294967295 =
    omega (arith, sized, c.saturating_add-content_len.ensures, c.length_field.ensures, c.new-len.ensures) in
    let same = block-written sids tagged c.new-len.result.0 c.head.result.0 c.any_tag-tagged.ensures c.head.ensures len in
    subst (λ (l : List ℕ). g.S.Sink.capacity c.args.sink.now (length l)) (sym same) c.requires

pub returns : goal.returns
returns g c =
    let sids = c.args.self.now.0.now in
    let tagged = c.any_tag-tagged.result in
    let sized : c.defined_len.result ≡ saturated (length (flat_map (λ s. (sid_as tagged).bytes (sid_or s)) sids)) = c.defined_len.ensures in
    let len : c.new-len.result.0 ≡ min (min (saturated (length (flat_map (λ s. (sid_as tagged).bytes (sid_or s)) sids)) + 8) (2 ^ 64 - 1)) 4294967295 =
    omega (arith, sized, c.saturating_add-content_len.ensures, c.length_field.ensures, c.new-len.ensures) in
    let same = block-written sids tagged c.new-len.result.0 c.head.result.0 c.any_tag-tagged.ensures c.head.ensures len in
    record { value = subst (λ (l : List ℕ). g.S.Sink.took c.args.sink.now l c.part.new.self) same c.part.ensures }

-- The kinds of OK packets, by the program's names.
use Rattle.std.specs.Prelude.{ℕ, List, Option, Some, None, codes, nat_eq, if◌then◌else◌}
use Rattle.std.specs.Cmp.Lexicographic.{pointwise}
use Rattle.mysql_program.specs.declared.commands.ok.OkKind.{OkKind}
use Rattle.mysql_program.specs.declared.commands.ok.OkKind.TheVariants as ok_kind

abbrev pub kind_of : List ℕ → Option OkKind
kind_of name =
    if pointwise nat_eq name (codes "common") then Some ok_kind.Common
    else if pointwise nat_eq name (codes "terminator") then Some ok_kind.Terminator
    else if pointwise nat_eq name (codes "eof") then Some ok_kind.Eof
    else if pointwise nat_eq name (codes "stream") then Some ok_kind.Stream
    else None

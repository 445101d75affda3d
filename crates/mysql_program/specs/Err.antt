-- The command `err`.
use Rattle.std.specs.Prelude.{ℕ, List, ◌∷◌, [], ◌++◌, codes}
use Rattle.mysql_wire.specs.Flags.{CapabilityFlags}
use Rattle.mysql_replies.specs.ErrPacket.{ErrPacket, err_packet, err_text}
use Rattle.mysql_replies.specs.declared.err_packet.ErrPacketOf.TheVariants as err
use Rattle.mysql_show.specs.Fields.{said, Word}
use Rattle.mysql_show.specs.FieldText.{lines_of}
use Rattle.mysql_show.specs.Replies.{error_fields, report_fields}
use Rattle.mysql_program.specs.Lines.{end_lines}
use Rattle.mysql_program.specs.Answer.{Answer, of_reading}

-- the lines of the part
abbrev pub part_lines : ErrPacket → List ℕ
part_lines (err.Error e) = lines_of (error_fields e)
part_lines (err.Progress r) = lines_of (report_fields r)

abbrev pub err_lines : ErrPacket → ℕ → List ℕ
err_lines p rest = (part_lines p ++ lines_of (said (codes "text") (Word (err_text p)) ∷ [])) ++ end_lines rest (err_packet.bytes p)

abbrev pub err_answer : CapabilityFlags → List ℕ → Answer
err_answer capabilities bytes = of_reading err_lines ((err_packet.form capabilities).reads bytes)

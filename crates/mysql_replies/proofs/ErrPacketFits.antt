-- The plain condition of an error packet is enough.
use Rattle.std.proofs.Common.{◌≡◌, List, [], ℕ, Option, Some, None, is_some, Bool, refl, sym, arith}
use Rattle.std.proofs.lemmas.List.{append-nil}
use Rattle.mysql_wire.specs.CodecAgain.{option_fits}
use Rattle.mysql_wire.specs.Codecs.{without_context}
use Rattle.mysql_wire.specs.Flags.{CapabilityFlags}
use Rattle.mysql_replies.specs.ErrPacket.{ErrPacket, err_packet, sends_state, ErrPacketFits, HasWidths, StateHasWidth, SuitsFlags}
use Rattle.mysql_replies.specs.declared.err_packet.ErrPacketOf.TheVariants as err
use Rattle.mysql_replies.specs.declared.sql_state.SqlState.{SqlState}
use Rattle.mysql_replies.specs.ProgressReport.{progress_report}
use Rattle.mysql_replies.specs.ServerError.{server_error, StateFits}
use Rattle.mysql_replies.specs.SqlState.{sql_state}

state-fits : (c : ℕ × Bool) (state : Option SqlState) (rest : List ℕ) → StateFits c.1 state → option_fits (without_context sql_state) c.1 c state rest
unfolding sql_state
state-fits c None rest h = h
state-fits c (Some state) rest h = (h.0, (tt, (h.1, tt)))

pub err_packet-fits : (capabilities : CapabilityFlags) (p : ErrPacket) (rest : List ℕ) → ErrPacketFits capabilities p rest → err_packet.fits capabilities p rest
unfolding err_packet server_error progress_report
err_packet-fits capabilities (err.Error e) rest h = ((tt, (h.code, tt)), ((h.no_report, (refl, (state-fits (e.code, sends_state capabilities) e.state _ h.state, (h.at_end, tt)))), tt))
err_packet-fits capabilities (err.Progress r) rest h =
    ((tt, (omega arith, tt)), ((h.taken, ((omega arith, (h.stage, (h.max_stage, (h.progress, tt)))), (h.stage_info, tt))), tt))

has-state : (sends : Bool) (state : Option SqlState) → is_some state ≡ sends → StateHasWidth state → StateFits sends state
has-state sends None is width = sym is
has-state sends (Some state) is width = (sym is, width)

flags-fit : (capabilities : CapabilityFlags) (p : ErrPacket) → SuitsFlags capabilities p → HasWidths p → ErrPacketFits capabilities p []
flags-fit capabilities (err.Error e) matches_type widths = record {
  code = widths.0;
  state = has-state (sends_state capabilities) e.state matches_type.0 widths.1;
  no_report = matches_type.1;
  at_end = refl;
}
flags-fit capabilities (err.Progress r) matches_type widths = record {
  taken = matches_type.0;
  stage = widths.0;
  max_stage = widths.1;
  progress = matches_type.1;
  stage_info = widths.2;
}

pub err_packet-again : (capabilities : CapabilityFlags) (p : ErrPacket) → SuitsFlags capabilities p → HasWidths p → (err_packet.form capabilities).Spells p (err_packet.bytes p) []
err_packet-again capabilities p matches_type widths =
    rw (append-nil (err_packet.bytes p)) at (err_packet.again capabilities p [] (err_packet-fits capabilities p [] (flags-fit capabilities p matches_type widths)))

pub ruleset err_packets = (err_packet-fits, err_packet-again)

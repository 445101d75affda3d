-- A sent change is decoded again.
use Rattle.std.specs.Prelude.{IfSome}
use Rattle.std.proofs.Common.{◌≡◌, ◌<◌, ◌^◌, ◌∷◌, [], length, Ok, true, false, refl, ap}
use Rattle.std.proofs.lemmas.List.{append-nil}
use Rattle.mysql_wire.specs.declared.codes.session_state_type.SessionStateType.{SessionStateType}
use Rattle.mysql_wire.specs.declared.codes.session_state_type.SessionStateType.TheVariants as kind
use Rattle.mysql_wire.specs.Form.{number, bytes}
use Rattle.mysql_wire.specs.Int.{raw}
use Rattle.mysql_wire.specs.LenEnc.{lenenc, lenenc_string}
use Rattle.mysql_session.proofs.PlainFits.{change-plain}
use Rattle.mysql_session.specs.SessionStateChange.{session_state_change, session_state_change_bytes, IsOfKind, ChangeIsShort}
use Rattle.mysql_session.specs.declared.session_state_change.SessionStateChange.{SessionStateChange}
use Rattle.mysql_session.specs.declared.session_state_change.SessionStateChange.TheVariants as change
use Rattle.mysql_session.specs.SessionText.{Gtids, text_bytes}
use Rattle.mysql_replies.specs.declared.sent_gtids.SentGtids.{SentGtids}
use Rattle.mysql_replies.specs.SentGtids.{sent_gtids, sent_text}
use Rattle.mysql_replies.specs.SentChange.{info_of, sent_info, SentIsShort}
use Rattle.mysql_replies.specs.SessionStateInfo.{front_of}
use Rattle.mysql_replies.specs.SessionStateChanges.{decoded_as_sent, is_gtids, gtids_of}
use Rattle.mysql_replies.proofs.AsSent.{as_sent}

-- in the written layout
read-again : (k : SessionStateType) (c : SessionStateChange) → is_gtids k ≡ false → IsOfKind k c → ChangeIsShort c → decoded_as_sent (info_of k (session_state_change_bytes c)) ≡ Ok (c, [])
read-again k c other is h =
    as_sent (info_of k (session_state_change_bytes c)) c other (ap front_of ((session_state_change k).only c (session_state_change_bytes c) [] (change-plain k c is h)))

-- as one byte
tracked-again : decoded_as_sent (info_of kind.SESSION_TRACK_STATE_CHANGE (49 ∷ [])) ≡ Ok (change.IsTracked true, [])
unfolding session_state_change lenenc_string lenenc raw number bytes
tracked-again = refl

untracked-again : decoded_as_sent (info_of kind.SESSION_TRACK_STATE_CHANGE (48 ∷ [])) ≡ Ok (change.IsTracked false, [])
unfolding session_state_change lenenc_string lenenc raw number bytes
untracked-again = refl

-- GTIDs after their encoding
gtids-again : (g : Gtids) → length (text_bytes g) < 2 ^ 64 → decoded_as_sent (info_of kind.SESSION_TRACK_GTIDS (sent_gtids.bytes (sent_text (text_bytes g)))) ≡ Ok (change.Gtids g, [])
unfolding sent_gtids
gtids-again g h =
    let set : SentGtids = sent_text (text_bytes g) in
    ap gtids_of ((sent_gtids.form tt).only set (sent_gtids.bytes set) [] (rw (append-nil (sent_gtids.bytes set)) at (sent_gtids.again tt set [] (tt, (h, tt)))))

pub sent-again : (c : SessionStateChange) → SentIsShort c → IfSome (sent_info c) (λ i. decoded_as_sent i ≡ Ok (c, []))
sent-again (change.IsTracked true) h = tracked-again
sent-again (change.IsTracked false) h = untracked-again
sent-again (change.Schema s) h = read-again _ (change.Schema s) refl refl h
sent-again (change.SystemVariables vs) h = read-again _ (change.SystemVariables vs) refl refl h
sent-again (change.Gtids g) h = gtids-again g h
sent-again (change.TransactionCharacteristics t) h = read-again _ (change.TransactionCharacteristics t) refl refl h
sent-again (change.TransactionState s) h = read-again _ (change.TransactionState s) refl refl h
sent-again (change.Unsupported u) h = tt

pub ruleset sent_changes = (sent-again)

-- Numbers of eight bytes that are sent as the type of their kind.
use Rattle.std.proofs.Common.{◌≡◌, ◌⊎◌, inl, inr, ℕ, true, false, length, refl, ap, ◌∙◌, arith}
use Rattle.std.specs.Int.{w64, cast_signed, cast_unsigned}
use Rattle.mysql_wire.specs.LittleEndian.{length-le_bytes}
use Rattle.mysql_wire.specs.Writing.{le_bytes, saturated}
use Rattle.mysql_stmt.specs.SentParam.{bytes_under}
use Rattle.mysql_stmt.proofs.SentBytes.{plain-bytes, plain-spelled}
use Rattle.mysql_packets_c.specs.CheckedParams.{may_be_sent, sent_bytes}
use Rattle.mysql_packets_c.specs.Execution.{own_type, param}
use Rattle.mysql_packets_c.specs.Parameter.{is_parameter}
use Rattle.mysql_packets_c.specs.Value.{value_content}
use Rattle.mysql_packets_c.specs.declared.parameter.CParameter.{CParameter}
use Rattle.mysql_packets_c.specs.declared.value.CValue.{CValue}

own-length : (v : CValue) → (v.kind ≡ 2) ⊎ (v.kind ≡ 3) → length (bytes_under false (own_type v).param_type (param v)) ≡ 8
unfolding value_content
own-length v (inl h) = ap length (plain-bytes false (param v)) ∙ rw h (length-le_bytes 8 (cast_unsigned w64 (cast_signed w64 v.number)))
own-length v (inr h) = ap length (plain-bytes false (param v)) ∙ rw h (length-le_bytes 8 v.number)

pub number-length : (p : CParameter) → p.has_type ≡ 0 → p.is_sent_ahead ≡ 0 → (p.value.kind ≡ 2) ⊎ (p.value.kind ≡ 3) → 8 ≡ saturated (length (sent_bytes p))
unfolding saturated
number-length p plain here h =
    let long : length (sent_bytes p) ≡ 8 = rw (plain, here) (own-length p.value h) in
    omega (arith, long)

number-valid : (p : CParameter) → p.has_type ≡ 0 → p.is_sent_ahead ≡ 0 → (p.value.kind ≡ 2) ⊎ (p.value.kind ≡ 3) → is_parameter p ≡ true
number-valid p plain here (inl h) = rw (plain, here, h) refl
number-valid p plain here (inr h) = rw (plain, here, h) refl

pub number-may : (p : CParameter) → p.has_type ≡ 0 → p.is_sent_ahead ≡ 0 → (p.value.kind ≡ 2) ⊎ (p.value.kind ≡ 3) → may_be_sent p ≡ true
number-may p plain here h = rw (number-valid p plain here h) (rw (plain, here) (plain-spelled (param p.value)))

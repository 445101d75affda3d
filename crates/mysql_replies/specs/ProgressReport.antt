-- The progress of a long statement.
use Rattle.std.specs.Prelude.{ℕ, ◌/◌, ◌%◌, ◌<◌, ◌^◌, List, ◌++◌, length, codes, decimal, refl}
use Rattle.mysql_wire.specs.declared.int.RawInt.{RawInt}
use Rattle.mysql_wire.specs.declared.little_endian.LeU24.{LeU24}
use Rattle.mysql_wire.specs.Text.{lossy_text}
use Rattle.mysql_wire.specs.Codecs.{Codec, Fields, ◌>>=◌, give, field, block, packet, u8, u24, string_lenenc, raw_int}
use Rattle.mysql_replies.specs.declared.progress_report.ProgressReportOf.{ProgressReportOf}

-- the owned and the borrowed form in a clause
abbrev pub ProgressReport : Type 0
ProgressReport = ProgressReportOf (List ℕ)

-- the stage, the last stage, the progress in thousandths of a percent, and the bytes of the stage's name
abbrev pub stage : {B : Type 0} → ProgressReportOf B → ℕ
stage r = r.stage.0

abbrev pub max_stage : {B : Type 0} → ProgressReportOf B → ℕ
max_stage r = r.max_stage.0

abbrev pub progress : {B : Type 0} → ProgressReportOf B → ℕ
progress r = r.progress.0

abbrev pub stage_info : ProgressReport → List ℕ
stage_info r = r.stage_info

-- the report with these fields
abbrev pub report_of : ℕ → ℕ → ℕ → List ℕ → ProgressReport
report_of stage max_stage progress stage_info =
    record { stage = raw_int stage; max_stage = raw_int max_stage; progress = raw_int progress; stage_info = stage_info }

-- a count with any value, written as 1; the stage, the last stage, the progress
abbrev pub progress_numbers : Fields (Unit {0}) ProgressReport (RawInt ℕ ℕ × RawInt ℕ ℕ × RawInt LeU24 ℕ)
progress_numbers = do
  count ← field (λ r. raw_int 1) u8
  stage ← field (λ r. r.stage) u8
  max_stage ← field (λ r. r.max_stage) u8
  progress ← field (λ r. r.progress) u24
  give (stage, max_stage, progress)

-- six bytes of numbers, and the stage's name
abbrev pub progress_report_fields : Fields (Unit {0}) ProgressReport ProgressReport
progress_report_fields = do
  numbers ← block 6 progress_numbers (λ r. refl)
  stage_info ← field stage_info string_lenenc
  give (record { stage = numbers.0; max_stage = numbers.1; progress = numbers.2; stage_info = stage_info })

unfoldable pub progress_report : Codec (Unit {0}) ProgressReport
progress_report = packet progress_report_fields (λ r. refl)

-- `Stage: 1 of 10 'stage name'  23.50% of stage done`
abbrev pub progress_text : ProgressReport → List ℕ
progress_text r =
    codes "Stage: " ++ (decimal (stage r) ++ (codes " of " ++ (decimal (max_stage r) ++ (codes " '" ++ (lossy_text (stage_info r) ++ (codes "'  "
    ++ (decimal (progress r / 1000) ++ (codes "." ++ (decimal (progress r % 1000 / 100) ++ (decimal (progress r % 100 / 10) ++ codes "% of stage done"))))))))))

-- when a report is read back: numbers within their widths
pub record ProgressReportFits (r : ProgressReport) : Type 0 where
  pub stage : stage r < 2 ^ 8
  pub max_stage : max_stage r < 2 ^ 8
  pub progress : progress r < 2 ^ 24
  pub stage_info : length (stage_info r) < 2 ^ 64

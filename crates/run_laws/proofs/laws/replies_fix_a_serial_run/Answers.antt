use Rattle.run_laws.proofs.Serial.{one-serial}
use Rattle.run_laws.proofs.laws.replies_fix_a_serial_run.Goals as goal

pub returns : goal.returns
returns c = one-serial

use Rattle.std.proofs.Common.{rules}
use Rattle.link.specs.Sessions.{after_data, after_message, ciphertext, sealing_at, after_telegram}
use Rattle.link.proofs.telegram.seal_telegram.Goals as goal

pub returns : goal.returns
unfolding sealing_at after_telegram ciphertext after_message after_data
returns g c = search rules

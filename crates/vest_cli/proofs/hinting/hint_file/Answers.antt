-- The bytes are those of the addresses.
use Rattle.vest_cli.proofs.hinting.hint_file.Goals as goal

pub returns-clause-bytes : goal.returns-clause-bytes
returns-clause-bytes c = λ image order map found. record { addresses = c.args.addresses.now; found = found; spell = c.in_ok-bytes.ensures }

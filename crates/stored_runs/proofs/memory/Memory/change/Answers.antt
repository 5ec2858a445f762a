use Rattle.stored_runs.proofs.memory.Memory.change.Goals as goal

pub returns-in-Get-clause-bytes : goal.returns-in-Get-clause-bytes
returns-in-Get-clause-bytes c = rw c.in-Get.is c.take_byte.ensures.bytes

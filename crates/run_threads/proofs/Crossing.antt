-- A job may go to another thread, and what the threads run may be shared.
use denote.Ref.{NamedLft}
use denote.Param.Send.{IsSend, IsSync, sendable}
use Rattle.std.proofs.Crossing.{crosses}
use Rattle.atomic_table.proofs.shared.Seat.TheSendSync as Seat
use Rattle.shared_memory.proofs.Crossing.{slot_send}
use Rattle.shared_memory.specs.contracts.pass.Pass as Pass
use Rattle.image_file.proofs.image.Image.TheSendSync as Image
use Rattle.prepared_code.proofs.prepared.Prepared.TheSendSync as Prepared
use Rattle.system_model.proofs.translation.Range.TheSendSync as Range
use Rattle.system_model.proofs.translation.Translation.TheSendSync as Translation
use Rattle.tie_switch.proofs.processor.Processor.TheSendSync as Processor
use Rattle.run_threads.specs.contracts.job.Job as Job
use Rattle.run_threads.specs.contracts.program.Program as Program

-- types as they stand where they are fields
pass_field_send : IsSend (Pass.the_field).row
pass_field_send = search (Seat.the_send, slot_send, sendable) depth 20

pub program_field_sync : (lifetime : NamedLft) → IsSync (Program.the_field lifetime).row
program_field_sync lifetime = search (Image.the_sync, Translation.the_sync, Prepared.the_sync, Range.the_sync, sendable, crosses) depth 30

-- and a job by itself
pub job_send : IsSend Job.the_row
job_send = search (pass_field_send, Processor.the_send, sendable) depth 20

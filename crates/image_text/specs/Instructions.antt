-- What is told of one instruction beside where it goes on.
use Rattle.std.specs.Prelude.{ℕ, ◌==◌, ◌&&◌, Bool, true, false, not, Option, Some, None, is_none, nat_lt}
use Rattle.std.specs.Option.{option_map_or}
use Rattle.service_codes.specs.Codes.{EXIT}
use Rattle.vax_form.specs.Operation.{operation_at}
use Rattle.vax_form.specs.Targets.{operand_of, jump_of, call_of}
use Rattle.vax_form.specs.declared.instr.Instr.{Instr}
use Rattle.vax_form.specs.declared.instr.Operand.{Operand}
use Rattle.vax_form.specs.declared.instr.Operand.TheVariants.{Value}
use Rattle.vax_form.specs.declared.operation.LongOperation.TheVariants.{CallGeneral, CallStack}
use Rattle.vax_form.specs.declared.operation.Operation.{Operation}
use Rattle.vax_form.specs.declared.operation.Operation.TheVariants.{Case, ChangeMode, Jump, JumpToSubroutine, Long}
use Rattle.flow_discovery.specs.Flow.{table_limit}

-- the base and the limit of a CASE stand in the code, and the limit is followed
abbrev pub is_followed : Operand → Operand → Bool
is_followed (Value base) (Value limit) = nat_lt limit table_limit
is_followed base limit = false

-- A jump, a call or a CASE that goes to an address which its code doesn't fix. RSB and RET are none: they go back.
unfoldable pub is_open_by : Instr → Operation → Bool
is_open_by instr Jump = is_none (jump_of instr)
is_open_by instr JumpToSubroutine = is_none (jump_of instr)
is_open_by instr (Long CallGeneral) = is_none (call_of instr)
is_open_by instr (Long CallStack) = is_none (call_of instr)
is_open_by instr (Case width) = not (is_followed (operand_of instr 1) (operand_of instr 2))
is_open_by instr _ = false

unfoldable pub is_open : Instr → Bool
is_open instr = option_map_or (is_open_by instr) (operation_at instr.opcode) false

-- CHMK asks the system for a service
unfoldable pub is_service : Operation → Bool
is_service ChangeMode = true
is_service _ = false

unfoldable pub asks_service : Instr → Bool
asks_service instr = option_map_or is_service (operation_at instr.opcode) false

-- the code of a service, where the instruction fixes it
abbrev pub fixed_value : Operand → Option ℕ
fixed_value (Value value) = Some value
fixed_value operand = None

-- the service that ends the thread, behind which nothing has to stand
abbrev pub is_exit : Option ℕ → Bool
is_exit None = false
is_exit (Some code) = code == EXIT

abbrev pub ends_thread : Instr → Bool
ends_thread instr = asks_service instr && is_exit (fixed_value (operand_of instr 0))

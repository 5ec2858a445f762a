-- The rest from this operand on, with the replies that are left, is the whole rest.
use Rattle.std.proofs.Common.{◌≡◌}
use Rattle.tie_operands.specs.Room.{IsPlace}
use Rattle.tie_operands.specs.Rest.{Behind, rest_at, rest_with}
use Rattle.tie_operands.proofs.operands.Operands.evaluate.Given as goal

abbrev pub invariant-loop-place : goal.invariant-loop-place
invariant-loop-place l = record {
  kept : l.self ≡ l.fn.self;
  place : IsPlace l.place l.found;
  pages : l.cursor.pages.now ≡ l.fn.cursor.pages.now;
  rest : (behind : Behind) → rest_at l.fn.self.specifiers l.found l.place l.values l.cursor behind ≡ rest_with l.fn.self l.fn.cursor behind;
}

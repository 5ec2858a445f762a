-- References as they were made. A list of them is newest first: its tail is the past of its first one.
use Rattle.std.specs.Prelude.{ℕ, suc, ◌==◌, List, [], ◌∷◌, ◌++◌, if◌then◌else◌, slice_index_or}
use Rattle.vax_form.specs.declared.state.Reference.{Reference}
use Rattle.vax_form.specs.declared.state.RefKind.{RefKind}
use Rattle.vax_form.specs.declared.state.RefKind.TheVariants.{Put, Get}
use Rattle.vax_form.specs.References.{reply_of, changed}

pub record Made : Type 0 where
  pub thread : ℕ
  pub reference : Reference
  pub reply : ℕ

-- memory behind the references, from the bytes before the first
abbrev pub bytes_after : (byte : ℕ → ℕ) → List Made → ℕ → ℕ
bytes_after byte [] = byte
bytes_after byte (m ∷ past) = changed m.reference (bytes_after byte past)

abbrev pub output_by : RefKind → List ℕ → List ℕ
output_by (Put value) output = value ∷ output
output_by _ output = output

-- the bytes that were put, newest first
abbrev pub output_after : List Made → List ℕ
output_after [] = []
output_after (m ∷ past) = output_by m.reference.kind (output_after past)

abbrev pub gets_by : RefKind → ℕ → ℕ
gets_by Get gets = suc gets
gets_by _ gets = gets

-- how many input bytes have been asked for
abbrev pub gets_after : List Made → ℕ
gets_after [] = 0
gets_after (m ∷ past) = gets_by m.reference.kind (gets_after past)

-- the input byte of that number, and minus 1 as a longword behind the last
abbrev pub input_at : List ℕ → ℕ → ℕ
input_at input n = slice_index_or input n 0xFFFF_FFFF

-- the replies that a thread got, in order
abbrev pub replies_to : (thread : ℕ) → List Made → List ℕ
replies_to thread [] = []
replies_to thread (m ∷ past) = if m.thread == thread then replies_to thread past ++ m.reply ∷ [] else replies_to thread past

-- a reference as it is made behind its past
abbrev pub make : (byte : ℕ → ℕ) → (input : List ℕ) → (past : List Made) → (thread : ℕ) → Reference → Made
make byte input past thread reference =
    record {
      thread = thread;
      reference = reference;
      reply = reply_of reference (bytes_after byte past) (input_at input (gets_after past));
    }

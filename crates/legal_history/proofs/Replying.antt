-- The replies to references are in range, and those to interpreted references are their accesses'.
use Rattle.std.proofs.Common.{◌≡◌, ℕ, ◌+◌, Bool, true, Option, None, refl, sym, ap, subst}
use Rattle.block_law.specs.Rounds.{block_steps}
use Rattle.memory_core.specs.declared.entry.Entry.{Entry}
use Rattle.memory_core.specs.declared.entry.Request.{Request}
use Rattle.memory_core.specs.Changes.{changed}
use Rattle.vax_form.specs.References.{FitsQuadword}
use Rattle.vax_form.specs.State.{Answers, AnswersKind}
use Rattle.vax_form.specs.declared.state.Reference.{Reference}
use Rattle.vax_form.specs.declared.state.RefKind.{RefKind}
use Rattle.vax_form.specs.declared.state.RefKind.TheVariants.{Read, Put, Get}
use Rattle.block_law.specs.References.{reply_by}
use Rattle.block_law.proofs.Blocks.{reply_answers}
use Rattle.system_model.specs.Processors.{request_of, entry_by, kind_by}
use Rattle.system_model.specs.Counted.{counts}
use Rattle.legal_history.specs.Kinds.{IsTie}
use Rattle.legal_history.specs.Entries.{Paired, Lock, lock_by}
use Rattle.legal_history.proofs.Fair.{IsFair}
use Rattle.legal_history.proofs.Judged.{share_by}
use Rattle.system_model.specs.Quadwords.{place_of, quad_address, change_by, change_of, reply_from, IsOfKind, IsOf}

fits_kind : (what : RefKind) (r : Reference) (e : Entry) (lock : Option Lock) → IsOfKind what r e → IsFair e.kind lock e.quad e.before e.success → AnswersKind what r.count (reply_by what (place_of r) r.count e.before)
fits_kind (Put byte) r e lock i f = refl
fits_kind Get r e lock i f = f.input i
fits_kind what r e lock i f = reply_answers what (place_of r) r.count e.before refl

-- what is replied by an entry of a reference can be given to it
pub reply_fits : (r : Reference) (e : Entry) (lock : Option Lock) → IsOf r e → IsFair e.kind lock e.quad e.before e.success → Answers r (reply_from r e)
reply_fits r e lock i f = fits_kind r.kind r e lock i f

-- ---- interpreted references
tie_counts_by : (what : RefKind) (success : Bool) → counts (kind_by what) success ≡ true
tie_counts_by Read success = refl
tie_counts_by what success = refl

pub tie_counts : (q : Reference) (success : Bool) → counts (kind_by q.kind) success ≡ true
tie_counts q success = tie_counts_by q.kind success

abbrev asked_by : RefKind → Reference → (thread retired : ℕ) → Request
asked_by what r thread retired = record { processor = thread; retired = retired; kind = kind_by what; quad = quad_address r; change = change_by what (place_of r) r.count }

-- an access that its reference asks for
accessed : (what : RefKind) (r : Reference) → r.kind ≡ what → (before : ℕ) → changed (change_by what (place_of r) r.count) before ≡ changed (change_of r) before
accessed what r k before = ap (λ (w : RefKind). changed (change_by w (place_of r) r.count) before) (sym k)

tie_is_by : (what : RefKind) (r : Reference) → r.kind ≡ what → (thread retired before : ℕ) (success : Bool) → FitsQuadword r → IsOfKind what r (entry_by (asked_by what r thread retired) before success)
tie_is_by (Put byte) r k thread retired before success fits = (refl, refl)
tie_is_by Get r k thread retired before success fits = refl
tie_is_by what r k thread retired before success fits = record { memory = refl; fits = fits; quad = refl; after = accessed what r k before }

-- the entry of an interpreted reference is of it
pub tie_is : (r : Reference) (thread retired before : ℕ) (success : Bool) → FitsQuadword r → IsOf r (entry_by (request_of thread retired r) before success)
tie_is r thread retired before success fits = tie_is_by r.kind r refl thread retired before success fits

-- it is no lock, has none before it, and allows as many steps more as a block may take
tie_free_by : (what : RefKind) (quad before : ℕ) → lock_by (kind_by what) quad before ≡ None
tie_free_by Read quad before = refl
tie_free_by what quad before = refl

pub tie_free : (q : Reference) (quad before : ℕ) → lock_by (kind_by q.kind) quad before ≡ None
tie_free q quad before = tie_free_by q.kind quad before

tie_paired_by : (what : RefKind) (quad : ℕ) → Paired (kind_by what) None quad
tie_paired_by Read quad = tt
tie_paired_by what quad = tt

pub tie_paired : (q : Reference) (lock : Option Lock) (quad : ℕ) → lock ≡ None → Paired (kind_by q.kind) lock quad
tie_paired q lock quad free = subst (λ l. Paired (kind_by q.kind) l quad) (sym free) (tie_paired_by q.kind quad)

tie_kind_by : (what : RefKind) → IsTie (kind_by what)
tie_kind_by Read = tt
tie_kind_by what = tt

pub tie_kind : (q : Reference) → IsTie (kind_by q.kind)
tie_kind q = tie_kind_by q.kind

tie_share_by : (what : RefKind) (success : Bool) (share : ℕ) → share_by (kind_by what) success share ≡ share + block_steps
tie_share_by Read success share = refl
tie_share_by what success share = refl

pub tie_share : (q : Reference) (success : Bool) (share : ℕ) → share_by (kind_by q.kind) success share ≡ share + block_steps
tie_share q success share = tie_share_by q.kind success share

-- The words of a program that goes on behind its last operation follow its tree up to there.
use Rattle.std.proofs.Common.{◌≡◌, ℕ, ◌+◌, ◌≤◌, refl, ap, ◌∙◌, subst, arith, List, [], ◌∷◌, ◌++◌, length, map, Option, Some, None, Bool, true, false, length-append, append_assoc}
use Rattle.std.specs.Prelude.{◌==◌, ◌&&◌, not, nat_le, option_and_then, if◌then◌else◌}
use Rattle.std.specs.List.{list_any, list_all}
use Rattle.std.proofs.lemmas.Bool.{and_parts, or_left, or_right, eqb-true}
use Rattle.vax_form.specs.PageTable.{IsPageTable}
use Rattle.vax_form.specs.Parts.{parts}
use Rattle.vax_form.specs.State.{Answers}
use Rattle.vax_form.specs.Tree.{Tree}
use Rattle.vax_form.specs.declared.state.Reference.{Reference}
use Rattle.alpha_encode.specs.declared.instr.AlphaInstr.{AlphaInstr}
use Rattle.alpha_encode.specs.declared.instr.AlphaInstr.TheVariants.{Operate, Pal}
use Rattle.alpha_encode.specs.declared.instr.OperateOp.TheVariants as row
use Rattle.alpha_encode.specs.declared.instr.Second.TheVariants.{Literal}
use Rattle.alpha_meaning.specs.State.{Regs, at_place}
use Rattle.micro_ops.specs.declared.codes.CodeSources.{CodeSources}
use Rattle.micro_ops.specs.declared.known.Checked.TheVariants.{At}
use Rattle.micro_ops.specs.declared.known.Known.{Known}
use Rattle.micro_ops.specs.declared.program.Micro.{Micro}
use Rattle.micro_ops.specs.declared.program.Micro.TheVariants.{Compute, Probe, Refuse, Read, Write, Locked, Commit, Codes, SetPsw, Leave}
use Rattle.micro_ops.specs.Course.{Course, Ask, AtLeaves}
use Rattle.micro_ops.specs.Fits.{step, walk, when_fits, check_fits, computation_fits, read_fits, write_fits, commit_fits, holding_of}
use Rattle.micro_ops.specs.Known.{behind_write, behind_access, behind_commit}
use Rattle.micro_ops.specs.LeftOut.{is_low, is_used}
use Rattle.micro_ops.specs.Meaning.{Standing, Left, with_value, course_of, departure_to}
use Rattle.micro_ops.specs.Uses.{has_bytes, leaves_longword, reads_flag}
use Rattle.compute_sequences.specs.Words.{compute_code}
use Rattle.block_law.specs.Laws.{MoreKinds}
use Rattle.block_law.specs.Placements.{Placement}
use Rattle.block_law.proofs.Rules.{Always, roomy}
use Rattle.program_codegen.specs.declared.lines.Line.{Line}
use Rattle.program_codegen.specs.declared.points.Site.{Site}
use Rattle.program_codegen.specs.Accesses.{needed}
use Rattle.program_codegen.specs.Words.{plain, marked, holder, copy, probing, lines_of, program_lines, read_by, write_by}
use Rattle.program_codegen.specs.Programs.{AllHaveWords, ReadsReady}
use Rattle.program_codegen.proofs.Knowing.{write_changes}
use Rattle.program_codegen.proofs.Walk.{Within, next, row_rest, row_length}
use Rattle.program_codegen.proofs.Holding.{Holds, found, tree}
use Rattle.program_codegen.proofs.Computing.{computes}
use Rattle.program_codegen.proofs.Operands.{count_some, read_value, write_done}
use Rattle.program_codegen.proofs.Accessing.{checks, reads_operand, writes_operand}
use Rattle.program_codegen.proofs.Committing.{commits}

-- an operation that neither refuses nor leaves, sets no codes and has its words
abbrev pub goes : Micro → Bool
goes (Compute to op size a b) = is_low to
goes (Probe place count write) = true
goes (Read to place count) = true
goes (Write place count source) = true
goes (Commit number source) = true
goes operation = false

-- ---- the walk
pub walk_some : (b : Bool) (between behind : Known) (on : Known → Option Known) → option_and_then on (when_fits b between) ≡ Some behind → (b ≡ true) × (on between ≡ Some behind)
walk_some true between behind on e = (refl, e)
walk_some false between behind on e = absurd (cc e)

unless_some : (b : Bool) (o : Option Known) (behind : Known) → b ≡ false → (if b then None else o) ≡ Some behind → o ≡ Some behind
unless_some true o behind off e = absurd (cc off)
unless_some false o behind off e = e

pub opened : (sources : CodeSources) (known behind : Known) (operation : Micro) (program : List Micro) → known.ended ≡ false → walk sources known (operation ∷ program) ≡ Some behind
    → option_and_then (λ between. walk sources between program) (step sources known operation) ≡ Some behind
opened sources known behind operation program off e = unless_some known.ended (option_and_then (λ between. walk sources between program) (step sources known operation)) behind off e

same_known : (known behind : Known) → Some known ≡ Some behind → known ≡ behind
same_known known behind e = cc e

pub kept_in : (low used : Bool) → low ≡ true → (not low && not used) ≡ false
kept_in true used e = refl
kept_in false used e = absurd (cc e)

-- how a program stands where it goes on
abbrev pub left_at : Site → Standing → Left
left_at site standing = record { departure = departure_to site.after standing; temps = standing.temps }

-- ---- lines
module _ (xs ys zs : List Line) where
  pub joined_length : length ((xs ++ ys) ++ zs) ≡ length xs + length (ys ++ zs)
  joined_length = ap length (append_assoc xs ys zs) ∙ length-append xs (ys ++ zs)

  pub longer_tail : 1 ≤ length zs → 1 ≤ length (ys ++ zs)
  longer_tail some = let e = length-append ys zs in omega arith

-- ---- the program
module _ (p : Placement) (site : Site) (codes : List AlphaInstr) (table : IsPageTable p.pages) (bytes : ℕ) (kinds : MoreKinds (needed site.byte_word bytes) p.kinds) (onward : Left → Tree) (P : Left → Type 0) where
  abbrev Course_of : List Micro → Standing → Course Left
  Course_of program standing = course_of program (found p site) standing

  -- the fact holds where a course comes to its end
  abbrev pub Good : Course Left → Type 0
  Good course = AtLeaves P course

  opens : (reference : Reference) (on : ℕ → Course Left) (reply : ℕ) → Good (Ask reference on) → Answers reference reply → Good (on reply)
  opens reference on reply good ok = good reply ok

  later_sized : (operation : Micro) (program : List Micro) → list_all (has_bytes bytes) (operation ∷ program) ≡ true → list_all (has_bytes bytes) program ≡ true
  later_sized operation program sized = (and_parts (has_bytes bytes operation) (list_all (has_bytes bytes) program) sized).1

  later_flags : (operation : Micro) (program : List Micro) → ReadsReady site.before (operation ∷ program) → ReadsReady site.before program
  later_flags operation program reads flag lt is = reads flag lt (or_right (reads_flag flag operation) (list_any (reads_flag flag) program) is)

  two_words : (pc : ℕ) → pc + 1 + 1 ≡ pc + 2
  two_words pc = omega arith

  -- what the words behind have to do
  abbrev pub GoesOnBehind : Known → (need : ℕ) → List Line → Type 0
  GoesOnBehind behind need rest = (standing : Standing) (regs : Regs) (pc : ℕ) → Within p site.behind pc rest → Holds p site behind standing regs
      → P (left_at site standing) → Always p None need (at_place regs pc) (onward (left_at site standing))

  pub goes_on : (program : List Micro) (rest : List Line) (need : ℕ) (known behind : Known) (standing : Standing) (regs : Regs) (pc : ℕ)
      → Within p site.behind pc (program_lines site codes program ++ rest) → 1 ≤ length rest
      → list_all goes program ≡ true → list_all (has_bytes bytes) program ≡ true → AllHaveWords site.sources program → ReadsReady site.before program
      → known.ended ≡ false → walk site.sources known program ≡ Some behind
      → Holds p site known standing regs → Good (Course_of program standing)
      → GoesOnBehind behind need rest
      → Always p None (length (program_lines site codes program) + need) (at_place regs pc) (tree onward (Course_of program standing))
  unfolding step
  goes_on [] rest need known behind standing regs pc w some all sized words reads off e h agree later =
      let same = same_known known behind e in
      roomy p None need (length (program_lines site codes []) + need) (at_place regs pc) _ (omega arith)
      (later standing regs pc w (subst (λ k. Holds p site k standing regs) same h) agree)
  goes_on (Compute to op size a b ∷ program) rest need known behind standing regs pc w some all sized words reads off e h agree later =
      let between = behind_write to (holding_of (leaves_longword (Compute to op size a b))) known in
      let x = walk_some (computation_fits known to op a b) between behind (λ between. walk site.sources between program) (opened site.sources known behind (Compute to op size a b) program off e) in
      let y = and_parts (is_low to) (list_all goes program) all in
      let in_words = kept_in (is_low to) (is_used site.sources program to) y.0 in
      let has = words.0 in_words in
      let tail = program_lines site codes program ++ rest in
      let code = compute_code op size a b (holder to) in
      let here : lines_of site codes (Compute to op size a b) program ≡ map plain code = ap (λ (out : Bool). if out then [] else map plain code) in_words in
      let w1 = subst (Within p site.behind pc) (ap (λ ls. (ls ++ program_lines site codes program) ++ rest) here ∙ append_assoc (map plain code) (program_lines site codes program) rest) w in
      let sum = length-append (lines_of site codes (Compute to op size a b) program) (program_lines site codes program) in
      let count = ap length here in
      let plain_count = row_length p site.behind code [] in
      let plain_all = length-append (map plain code) [] in
      roomy p None (length code + (length (program_lines site codes program) + need)) (length (program_lines site codes (Compute to op size a b ∷ program)) + need) (at_place regs pc) _ (omega arith)
      (computes p site (length (program_lines site codes program) + need) pc to op size a b tail known standing regs _ w1 (longer_tail [] (program_lines site codes program) rest some) x.0 has.0 has.1 has.2
      (λ flag lt is. reads flag lt (or_left (reads_flag flag (Compute to op size a b)) (list_any (reads_flag flag) program) is)) h
      (λ g h'. goes_on program rest need between behind _ g (pc + length code) (row_rest p site.behind pc code tail w1) some y.1 (later_sized (Compute to op size a b) program sized) words.1 (later_flags (Compute to op size a b) program reads)
      ((write_changes to (holding_of (leaves_longword (Compute to op size a b))) known).ended ∙ off) x.1 h' agree later))
  goes_on (Probe place count write ∷ program) rest need known behind standing regs pc w some all sized words reads off e h agree later =
      let between = behind_access (record known { checked = At place count write }) in
      let x = walk_some (check_fits known place count) between behind (λ between. walk site.sources between program) (opened site.sources known behind (Probe place count write) program off e) in
      let tail = program_lines site codes program ++ rest in
      let w1 = next p site.behind pc (copy (holder place) 27) None (marked (Pal 0x80) (probing site count write) ∷ tail) w in
      let w2 = subst (λ q. Within p site.behind q tail) (two_words pc) (next p site.behind (pc + 1) (Pal 0x80) (Some (probing site count write)) tail w1) in
      roomy p None (2 + (length (program_lines site codes program) + need)) (length (program_lines site codes (Probe place count write ∷ program)) + need) (at_place regs pc) _ (omega arith)
      (checks p site onward (length (program_lines site codes program) + need) pc place count write tail known standing regs (Course_of program standing) w (longer_tail [] (program_lines site codes program) rest some) x.0 words.0.0 words.0.1 h
      (λ g ok h'. goes_on program rest need between behind standing g (pc + 2) w2 some all (later_sized (Probe place count write) program sized) words.1 (later_flags (Probe place count write) program reads) off x.1 h' agree later))
  goes_on (Read to place count ∷ program) rest need known behind standing regs pc w some all sized words reads off e h agree later =
      let between = behind_access (behind_write to (holding_of (nat_le count 4)) known) in
      let x = walk_some (read_fits known to place count) between behind (λ between. walk site.sources between program) (opened site.sources known behind (Read to place count) program off e) in
      let tail = program_lines site codes program ++ rest in
      let size = count_some words.0.2 in
      let code = read_by site.byte_word (holder place) count (holder to) in
      let w1 = subst (Within p site.behind pc) (append_assoc (map plain code) (program_lines site codes program) rest) w in
      let sum = length-append (map plain code) (program_lines site codes program) in
      let plain_count = row_length p site.behind code [] in
      let plain_all = length-append (map plain code) [] in
      roomy p None (length code + (length (program_lines site codes program) + need)) (length (program_lines site codes (Read to place count ∷ program)) + need) (at_place regs pc) _ (omega arith)
      (reads_operand p site table bytes kinds onward (length (program_lines site codes program) + need) pc to place count tail known standing regs (λ value. Course_of program (with_value to value standing)) w1 (longer_tail [] (program_lines site codes program) rest some) x.0 words.0.0 words.0.1 words.0.2 h
      (λ value g fits h'. goes_on program rest need between behind (with_value to value standing) g (pc + length code) (row_rest p site.behind pc code tail w1) some all (later_sized (Read to place count) program sized) words.1 (later_flags (Read to place count) program reads)
      ((write_changes to (holding_of (nat_le count 4)) known).ended ∙ off) x.1 h'
      (read_value Good opens (standing.temps place) count value (λ value. Course_of program (with_value to value standing)) size.0 size.1 fits agree) later))
  goes_on (Write place count source ∷ program) rest need known behind standing regs pc w some all sized words reads off e h agree later =
      let x = walk_some (write_fits known place count source) (behind_access known) behind (λ between. walk site.sources between program) (opened site.sources known behind (Write place count source) program off e) in
      let tail = program_lines site codes program ++ rest in
      let code = write_by site.byte_word (holder place) count (holder source) in
      let w1 = subst (Within p site.behind pc) (append_assoc (map plain code) (program_lines site codes program) rest) w in
      let sum = length-append (map plain code) (program_lines site codes program) in
      let plain_count = row_length p site.behind code [] in
      let plain_all = length-append (map plain code) [] in
      roomy p None (length code + (length (program_lines site codes program) + need)) (length (program_lines site codes (Write place count source ∷ program)) + need) (at_place regs pc) _ (omega arith)
      (writes_operand p site table bytes kinds onward (length (program_lines site codes program) + need) pc place count source tail known standing regs (Course_of program standing) w1 (longer_tail [] (program_lines site codes program) rest some) x.0 words.0.0 words.0.1 words.0.2
      (eqb-true count bytes (and_parts (count == bytes) (list_all (has_bytes bytes) program) sized).0) h
      (λ g h'. goes_on program rest need (behind_access known) behind standing g (pc + length code) (row_rest p site.behind pc code tail w1) some all (later_sized (Write place count source) program sized) words.1 (later_flags (Write place count source) program reads) off x.1 h'
      (write_done Good opens (parts (standing.temps place) count) (standing.temps source) (Course_of program standing) agree) later))
  goes_on (Commit number source ∷ program) rest need known behind standing regs pc w some all sized words reads off e h agree later =
      let x = walk_some (commit_fits known number source) (behind_commit number known) behind (λ between. walk site.sources between program) (opened site.sources known behind (Commit number source) program off e) in
      let tail = program_lines site codes program ++ rest in
      roomy p None (1 + (length (program_lines site codes program) + need)) (length (program_lines site codes (Commit number source ∷ program)) + need) (at_place regs pc) _ (omega arith)
      (commits p site (length (program_lines site codes program) + need) pc number source tail known standing regs (tree onward (Course_of (Commit number source ∷ program) standing)) w (longer_tail [] (program_lines site codes program) rest some) x.0 words.0.0 words.0.1 h
      (λ g h'. goes_on program rest need (behind_commit number known) behind _ g (pc + 1) (next p site.behind pc (Operate row.Addl (holder source) (Literal 0) number) None tail w) some all (later_sized (Commit number source) program sized) words.1 (later_flags (Commit number source) program reads) off x.1 h' agree later))
  goes_on (Refuse when ∷ program) rest need known behind standing regs pc w some all sized words reads off e h agree later = absurd (cc all)
  goes_on (Locked to place kind source ∷ program) rest need known behind standing regs pc w some all sized words reads off e h agree later = absurd (cc all)
  goes_on (Codes n z v c ∷ program) rest need known behind standing regs pc w some all sized words reads off e h agree later = absurd (cc all)
  goes_on (SetPsw source ∷ program) rest need known behind standing regs pc w some all sized words reads off e h agree later = absurd (cc all)
  goes_on (Leave exit ∷ program) rest need known behind standing regs pc w some all sized words reads off e h agree later = absurd (cc all)

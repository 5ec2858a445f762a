-- The listing of the read-only sections of an image.
use Rattle.std.specs.Prelude.{ℕ, ◌+◌, ◌-◌, ◌*◌, ◌/◌, ◌==◌, ◌&&◌, nat_le, nat_lt, min, not, Bool, if◌then◌else◌, is_some, List, [], ◌∷◌, ◌++◌, codes, decimal, filter, fold, length}
use Rattle.std.specs.List.{enumerate_from, flat_map}
use Rattle.address_map.specs.Pairs.{Pair, word_at}
use Rattle.image_file.specs.Values.{SectionValue}
use Rattle.vax_form.specs.PageTable.{page_size}
use Rattle.vax_form.specs.declared.instr.Instr.{Instr}
use Rattle.vax_form.specs.declared.pages.PageRange.{PageRange}
use Rattle.vax_form.specs.declared.pages.Pages.{Pages}
use Rattle.report_text.specs.Digits.{eight_digits}
use Rattle.dis_text.specs.Bytes.{bytes_at, count_of}
use Rattle.dis_text.specs.Lines.{bytes_line, instruction_line, word_line, zeros_line}
use Rattle.dis_text.specs.Pieces.{Covered, Piece, bytes, covered_by, instruction, pieces, word, zeros}
use Rattle.dis_text.specs.Words.{block_text}

-- What is listed: the code, what stands before the line of an address, the words of a translation, whether they go out,
-- and of which addresses the lines do.
pub record Listed : Type 0 where
  pub pages : Pages
  pub before : ℕ → List ℕ
  pub words : List ℕ
  pub pairs : List Pair
  pub with_words : Bool
  pub first : ℕ
  pub last : ℕ

-- ---- a piece

abbrev pub address_of : Piece → ℕ
address_of (instruction instr inside) = instr.at
address_of (word at target) = at
address_of (bytes at count) = at
address_of (zeros at count) = at

abbrev pub piece_line : Listed → Piece → List ℕ
piece_line listed (instruction instr inside) =
    instruction_line (bytes_at listed.pages instr.at (count_of instr)) instr inside (is_some (word_at listed.pairs instr.at))
    ++ (if listed.with_words then block_text listed.words listed.pairs (word_at listed.pairs instr.at) else [])
piece_line listed (word at target) = word_line (bytes_at listed.pages at 2) at target
piece_line listed (bytes at count) = bytes_line (bytes_at listed.pages at count) at
piece_line listed (zeros at count) = zeros_line at count

abbrev pub is_told : Listed → ℕ → Bool
is_told listed address = nat_le listed.first address && nat_le address listed.last

abbrev pub piece_text : Listed → Piece → List ℕ
piece_text listed piece = if is_told listed (address_of piece) then listed.before (address_of piece) ++ piece_line listed piece else []

-- ---- a section

-- behind the last page that is stored
abbrev pub stored_end : SectionValue → ℕ
stored_end s = s.start + min s.size ((length s.stored + page_size - 1) / page_size * page_size)

abbrev pub end_of : SectionValue → ℕ
end_of s = s.start + s.size

-- an instruction may begin before the section and end in it
abbrev pub covered_with : (start : ℕ) → Covered → Instr → Covered
covered_with start c instr = if nat_lt instr.at start then covered_by instr c else c

abbrev pub covered_before : (start : ℕ) → List Instr → Covered
covered_before start instrs = fold (covered_with start) (record { end = start; by = start; words = 0 }) instrs

abbrev pub begins_in : SectionValue → Instr → Bool
begins_in s instr = nat_le s.start instr.at && nat_lt instr.at (end_of s)

abbrev pub section_pieces : Pages → List Instr → SectionValue → List Piece
section_pieces pages instrs s = pieces pages (stored_end s) (end_of s) (covered_before s.start instrs) (filter (begins_in s) instrs)

abbrev pub section_head : (number : ℕ) → SectionValue → List ℕ
section_head number s =
    codes "; section" ++ 32 ∷ decimal number ++ (codes " " ++ eight_digits s.start) ++ (codes " to " ++ eight_digits (end_of s - 1)) ++ codes " read-only\n"

-- where an address of the section is asked for
abbrev pub is_section_told : Listed → SectionValue → Bool
is_section_told listed s = nat_lt listed.first (end_of s) && nat_le s.start listed.last

abbrev pub section_text : Listed → List Instr → (number : ℕ) → SectionValue → List ℕ
section_text listed instrs number s =
    if is_section_told listed s then section_head number s ++ flat_map (piece_text listed) (section_pieces listed.pages instrs s) else []

-- ---- all of them, in rising order of address, which is that of the page table

abbrev pub begins_at : PageRange → SectionValue → Bool
begins_at r s = (s.start == page_size * r.first) && not s.writable

abbrev pub text_at : Listed → List Instr → PageRange → ℕ × SectionValue → List ℕ
text_at listed instrs r s = if begins_at r s.1 then section_text listed instrs s.0 s.1 else []

abbrev pub range_text : Listed → List Instr → List SectionValue → PageRange → List ℕ
range_text listed instrs sections r = flat_map (text_at listed instrs r) (enumerate_from 0 sections)

unfoldable pub listing_text : Listed → List Instr → List SectionValue → List ℕ
listing_text listed instrs sections = flat_map (range_text listed instrs sections) listed.pages.ranges

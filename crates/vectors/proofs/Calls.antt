-- Single answers of the simulator SIMH, of the emulator QEMU and of the manuals, one or two a definition.
use Rattle.std.proofs.Common.{◌≡◌, ℕ, List, [], ◌∷◌, Bool, true, false, Option, Some, None, refl}
use Rattle.std.specs.Prelude.{◌/◌, pos, negsuc, bit_and, bit_or, bit_xor, nat_le}
use Rattle.vt_words.specs.declared.arithmetic.Coded.{Coded}
use Rattle.vt_words.specs.Arithmetic.{coded_value, conversion_of, extended_product_of}
use Rattle.vt_words.specs.Quad.{cleared, ext_high, ext_low, field_of, ins_high, ins_low, kept, msk_high, msk_low, sign_extended, spread, with_field_of}
use Rattle.vt_words.specs.Shifts.{complement_of, left_shift_of, right_shift_of, rotation_of, without}
use Rattle.vt_words.specs.Values.{modulus, signed_value, value_of}
use Rattle.vax_form.specs.Exceptions.{intent_of, parameter_of, vector_of}
use Rattle.vax_form.specs.GrammarModes.{mode_of}
use Rattle.vax_form.specs.Pages.{code_byte_at, first_bad, is_allowed}
use Rattle.vax_form.specs.Size.{bytes_of, size_of}
use Rattle.vax_form.specs.State.{psl_of, register, with_register}
use Rattle.vax_form.specs.declared.mode.Mode.TheVariants.{Increment, Immediate}
use Rattle.vax_form.specs.declared.instr.Size.TheVariants.{Quad}
use Rattle.vax_form.specs.declared.instr.Width.TheVariants.{Word}
use Rattle.vax_form.specs.declared.pages.PageRange.{PageRange}
use Rattle.vax_form.specs.declared.pages.Pages.{Pages}
use Rattle.vax_form.specs.declared.state.Exception.TheVariants.{AccessViolation, Arithmetic}
use Rattle.vax_form.specs.declared.state.Pending.TheVariants.{Nothing}
use Rattle.vax_form.specs.declared.state.VaxState.{VaxState}
use Rattle.alpha_encode.specs.declared.instr.BranchOp.TheVariants.{Bgt, Blt, Bne, Bsr}
use Rattle.alpha_encode.specs.declared.instr.MemoryOp.TheVariants.{Lda, Ldah, LdlL, Ldq, LdqU, StlC}
use Rattle.alpha_meaning.specs.declared.access.AlphaAccess.{AlphaAccess}
use Rattle.alpha_meaning.specs.declared.access.AlphaKind.TheVariants.{LoadLocked, StoreConditional}
use Rattle.alpha_meaning.specs.Act.{links, taken}
use Rattle.alpha_meaning.specs.Memory.{access_of, address_of, bytes_of as alpha_bytes, drops_low_bits, extended, extension_of, kind_of, scale_of, stores}

abbrev coded : (value : ℕ) (n z v c : Bool) → Coded
coded value n z v c = record { value = value; n = n; z = z; v = v; c = c }

-- ---- conversions, shifts, logic and products, by SIMH
cvtwb : conversion_of 2 1 0x4268 ≡ coded 0x68 false false true false
unfolding conversion_of
cvtwb = refl

cvtwl : conversion_of 2 4 0xFFDC ≡ coded 0xFFFFFFDC true false false false
unfolding conversion_of
cvtwl = refl

ashl_by_1 : left_shift_of 0x1D 1 ≡ coded 0x3A false false false false
unfolding left_shift_of
ashl_by_1 = refl

ashl_by_63 : left_shift_of 0x7E 0x3F ≡ coded 0 false true true false
unfolding left_shift_of
ashl_by_63 = refl

ashl_by_minus_1 : right_shift_of 0x3C 1 ≡ 0x1E
ashl_by_minus_1 = refl

signs_of_a_word : coded_value 2 0x8000 false true ≡ coded 0x8000 true false false true
signs_of_a_word = refl

negative_byte : nat_le (modulus 1 / 2) 0x80 ≡ true
negative_byte = refl

positive_word : nat_le (modulus 2 / 2) 0x80 ≡ false
positive_word = refl

emul : extended_product_of 0x8001 0x80808080 7 ≡ 0xFFFFC03FC0C08087
unfolding extended_product_of
emul = refl

emul_of_large_operands : extended_product_of 0x7B04D65F 0xFFFF 0x6FE4A789 ≡ 0x7B04CB3ED12A
unfolding extended_product_of
emul_of_large_operands = refl

rotl : rotation_of 0x7F 31 ≡ 0x8000003F
rotl = refl

bicl : without 4 0x1F5DAB1A 0xFFAED67E ≡ 0x512900
bicl = refl

bisl : bit_or 0xFFFFFFDC 0x26 ≡ 0xFFFFFFFE
bisl = refl

xorl : bit_xor 0x80808080 0x79944A39 ≡ 0xF914CAB9
xorl = refl

mcoml : complement_of 4 0xFF ≡ 0xFFFFFF00
mcoml = refl

common_bits : bit_and 0xF0 0x3C ≡ 0x30
common_bits = refl

byte_as_a_word : value_of 2 (signed_value 1 0xFE) ≡ 0xFFFE
byte_as_a_word = refl

-- ---- quadwords, by QEMU
abbrev quad : ℕ
quad = 0xCBEEAC87E345923A

addl : sign_extended 0xDA1A465B 32 ≡ 0xFFFFFFFFDA1A465B
addl = refl

extwl : ext_low 0x03 quad 7 ≡ 0xCB
unfolding spread
extwl = refl

extwh : ext_high 0x03 quad 7 ≡ 0x3A00
unfolding spread
extwh = refl

insll : ins_low 0x0F quad 7 ≡ 0x3A00000000000000
unfolding spread
insll = refl

inslh : ins_high 0x0F quad 7 ≡ 0x00E34592
unfolding spread
inslh = refl

mskql : msk_low 0xFF quad 7 ≡ 0x00EEAC87E345923A
unfolding spread
mskql = refl

mskqh : msk_high 0xFF quad 7 ≡ 0xCB00000000000000
unfolding spread
mskqh = refl

zap : cleared 0x0F quad ≡ 0xCBEEAC8700000000
unfolding spread
zap = refl

zapnot : kept 0x0F quad ≡ 0xE345923A
unfolding spread
zapnot = refl

bits_of_bytes : spread 0x81 ≡ 0xFF000000000000FF
unfolding spread
bits_of_bytes = refl

three_bytes : field_of quad 2 3 ≡ 0x87E345
three_bytes = refl

two_bytes_replaced : with_field_of quad 6 2 0x2345 ≡ 0x2345AC87E345923A
two_bytes_replaced = refl

-- ---- sizes, modes, states and exceptions of the VAX
-- VAX Architecture Reference Manual, "Data Types", "Addressing Modes", "Exceptions and Interrupts".
quadword : bytes_of Quad ≡ 8
quadword = refl

word : bytes_of (size_of Word) ≡ 2
word = refl

increment_mode : mode_of 0x83 ≡ Increment
unfolding mode_of
increment_mode = refl

immediate_mode : mode_of 0x8F ≡ Immediate
unfolding mode_of
immediate_mode = refl

abbrev state : VaxState
state = record { r = 0 ∷ 0 ∷ 0 ∷ 0 ∷ 0 ∷ 0 ∷ 0 ∷ 0 ∷ 0 ∷ 0 ∷ 0 ∷ 0 ∷ 0 ∷ 0 ∷ 0 ∷ []; pc = 0; psw = 0x24; handler = 0; pending = Nothing }

stack_pointer : register 14 (with_register 14 0x1460 state) ≡ 0x1460
stack_pointer = refl

status_longword : psl_of state ≡ 0x03C00024
status_longword = refl

vector : vector_of (AccessViolation 0x1200 true) ≡ 0x20
vector = refl

parameter : parameter_of (AccessViolation 0x1200 true) ≡ 0x1200
parameter = refl

intent : intent_of (AccessViolation 0x1200 true) ≡ 1
intent = refl

trap_type : parameter_of (Arithmetic 2) ≡ 2
trap_type = refl

-- ---- a page table: a read-only page at 200, a writable one at 1000 and a read-only one at 1200
abbrev pages : Pages
pages = record {
  ranges = record { first = 1; count = 1; writable = false; place = 0 } ∷ record { first = 8; count = 1; writable = true; place = 0 }
      ∷ record { first = 9; count = 1; writable = false; place = 1 } ∷ [];
  code = 0xD0 ∷ 0x50 ∷ [];
}

below_the_first : is_allowed pages 0x1FF false ≡ false
below_the_first = refl

first_byte : code_byte_at pages 0x200 ≡ Some 0xD0
first_byte = refl

second_byte : code_byte_at pages 0x201 ≡ Some 0x50
second_byte = refl

behind_the_first : is_allowed pages 0x400 false ≡ false
behind_the_first = refl

read_only : is_allowed pages 0x200 true ≡ false
read_only = refl

writable : is_allowed pages 0x1000 true ≡ true
writable = refl

no_code : code_byte_at pages 0x1000 ≡ None
no_code = refl

second_read_only : is_allowed pages 0x1200 true ≡ false
second_read_only = refl

last_address : is_allowed pages 0xFFFFFFFF false ≡ false
last_address = refl

written_over_the_end : first_bad pages true 0x11FE 4 ≡ Some 0x1200
written_over_the_end = refl

read_over_the_end : first_bad pages false 0x11FE 4 ≡ None
read_over_the_end = refl

read_before_the_first : first_bad pages false 0x1FC 8 ≡ Some 0x1FC
read_before_the_first = refl

-- ---- memory and branch instructions of Alpha
-- Alpha Architecture Reference Manual, 4.2 "Memory Integer Load/Store Instructions", 4.3 "Control Instructions".
ldah_counts_65536s : address_of Ldah 1 (negsuc 1) ≡ 0xFFFFFFFFFFFE0001
ldah_counts_65536s = refl

ldq_u_drops_low_bits : address_of LdqU 0x1007 (negsuc 0) ≡ 0x1000
ldq_u_drops_low_bits = refl

ldl_l_extends_the_sign : extended (extension_of LdlL) (alpha_bytes LdlL) 0x80000001 ≡ 0xFFFFFFFF80000001
ldl_l_extends_the_sign = refl

lda_counts_bytes : scale_of Lda ≡ 1
lda_counts_bytes = refl

ldq_keeps_low_bits : drops_low_bits Ldq ≡ false
ldq_keeps_low_bits = refl

ldah_makes_no_access : kind_of Ldah ≡ None
ldah_makes_no_access = refl

ldl_l_locks : kind_of LdlL ≡ Some LoadLocked
ldl_l_locks = refl

abbrev access : AlphaAccess
access = access_of StlC StoreConditional 0x1004 0x123456789

stl_c_address : access.address ≡ 0x1004
stl_c_address = refl

stl_c_bytes : access.bytes ≡ 4
stl_c_bytes = refl

stl_c_value : access.value ≡ 0x23456789
stl_c_value = refl

stl_c_stores : stores access.kind ≡ true
stl_c_stores = refl

blt_of_negative : taken Blt 0x8000000000000000 ≡ true
blt_of_negative = refl

bgt_of_zero : taken Bgt 0 ≡ false
bgt_of_zero = refl

bsr_links : links Bsr ≡ true
bsr_links = refl

bne_links_not : links Bne ≡ false
bne_links_not = refl

-- What is listed is what was asked for.
use Rattle.std.proofs.Common.{◌≡◌, ℕ, List, [], ◌++◌, ap, ◌∙◌}
use Rattle.std.specs.List.{flat_map}
use Rattle.image_file.specs.Values.{SectionValue}
use Rattle.vax_form.specs.declared.instr.Instr.{Instr}
use Rattle.vax_form.specs.declared.pages.PageRange.{PageRange}
use Rattle.dis_text.specs.Listing.{Listed, listing_text, range_text}

pub funext : {A B : Type 0} (f g : A → B) → ((x : A) → f x ≡ g x) → f ≡ g
funext f g same = λ i x. same x i

pub all_listed : (a b : Listed) (instrs : List Instr) (sections : List SectionValue) (ranges : List PageRange) (empty out : List ℕ) → empty ≡ []
    → out ≡ empty ++ flat_map (range_text a instrs sections) ranges → a ≡ b → ranges ≡ b.pages.ranges → out ≡ listing_text b instrs sections
unfolding listing_text
all_listed a b instrs sections ranges empty out none is same all =
    is ∙ ap (λ e. e ++ flat_map (range_text a instrs sections) ranges) none ∙ ap (λ l. flat_map (range_text l instrs sections) ranges) same
    ∙ ap (flat_map (range_text b instrs sections)) all

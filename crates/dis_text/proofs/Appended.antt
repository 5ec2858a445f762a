-- Parts appended one after the other.
use Rattle.std.proofs.Common.{◌≡◌, ℕ, List, ◌++◌, ap, ◌∙◌, append_assoc}

pub two : (o a b p out : List ℕ) → p ≡ o ++ a → out ≡ p ++ b → out ≡ o ++ (a ++ b)
two o a b p out first second = second ∙ ap (λ x. x ++ b) first ∙ append_assoc o a b

pub three : (o a b c p q out : List ℕ) → p ≡ o ++ a → q ≡ p ++ b → out ≡ q ++ c → out ≡ o ++ (a ++ b ++ c)
three o a b c p q out first second third = two o (a ++ b) c q out (two o a b p q first second) third

pub four : (o a b c d p q r out : List ℕ) → p ≡ o ++ a → q ≡ p ++ b → r ≡ q ++ c → out ≡ r ++ d → out ≡ o ++ (a ++ b ++ c ++ d)
four o a b c d p q r out first second third fourth = two o (a ++ b ++ c) d r out (three o a b c p q r first second third) fourth

pub five : (o a b c d e p q r s out : List ℕ) → p ≡ o ++ a → q ≡ p ++ b → r ≡ q ++ c → s ≡ r ++ d → out ≡ s ++ e → out ≡ o ++ (a ++ b ++ c ++ d ++ e)
five o a b c d e p q r s out first second third fourth fifth =
    two o (a ++ b ++ c ++ d) e s out (four o a b c d p q r s first second third fourth) fifth

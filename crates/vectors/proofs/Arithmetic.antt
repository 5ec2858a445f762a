-- What the VAX simulator SIMH answers to whole-number arithmetic.
use Rattle.std.proofs.Common.{◌≡◌, ℕ, Bool, true, false, refl}
use Rattle.vt_words.specs.declared.arithmetic.Coded.{Coded}
use Rattle.vt_words.specs.Arithmetic.{sum_of, difference_of, negation_of, product_of, quotient_of}

abbrev coded : (value : ℕ) (n z v c : Bool) → Coded
coded value n z v c = record { value = value; n = n; z = z; v = v; c = c }

row1 : sum_of 1 255 255 false ≡ coded 254 true false false true
unfolding sum_of difference_of product_of quotient_of
row1 = refl

row2 : sum_of 1 128 0 false ≡ coded 128 true false false false
unfolding sum_of difference_of product_of quotient_of
row2 = refl

row3 : sum_of 1 127 106 false ≡ coded 233 true false true false
unfolding sum_of difference_of product_of quotient_of
row3 = refl

row4 : difference_of 1 218 255 false ≡ coded 219 true false false true
unfolding sum_of difference_of product_of quotient_of
row4 = refl

row5 : difference_of 1 231 1 false ≡ coded 230 true false false false
unfolding sum_of difference_of product_of quotient_of
row5 = refl

row6 : product_of 1 227 255 ≡ coded 29 false false false false
unfolding sum_of difference_of product_of quotient_of
row6 = refl

row7 : product_of 1 33 33 ≡ coded 65 false false true false
unfolding sum_of difference_of product_of quotient_of
row7 = refl

row8 : product_of 1 20 127 ≡ coded 236 true false true false
unfolding sum_of difference_of product_of quotient_of
row8 = refl

row9 : product_of 1 18 128 ≡ coded 0 false true true false
unfolding sum_of difference_of product_of quotient_of
row9 = refl

row10 : quotient_of 1 96 248 ≡ coded 244 true false false false
unfolding sum_of difference_of product_of quotient_of
row10 = refl

row11 : quotient_of 1 170 254 ≡ coded 43 false false false false
unfolding sum_of difference_of product_of quotient_of
row11 = refl

row12 : quotient_of 1 6 0 ≡ coded 6 false false true false
unfolding sum_of difference_of product_of quotient_of
row12 = refl

row13 : negation_of 1 1 ≡ coded 255 true false false true
unfolding sum_of difference_of product_of quotient_of
row13 = refl

row14 : negation_of 1 0 ≡ coded 0 false true false false
unfolding sum_of difference_of product_of quotient_of
row14 = refl

row15 : sum_of 1 127 1 false ≡ coded 128 true false true false
unfolding sum_of difference_of product_of quotient_of
row15 = refl

row16 : sum_of 1 255 1 false ≡ coded 0 false true false true
unfolding sum_of difference_of product_of quotient_of
row16 = refl

row17 : difference_of 1 255 1 false ≡ coded 254 true false false false
unfolding sum_of difference_of product_of quotient_of
row17 = refl

row18 : sum_of 2 65510 23255 false ≡ coded 23229 false false false true
unfolding sum_of difference_of product_of quotient_of
row18 = refl

row19 : sum_of 2 65533 0 false ≡ coded 65533 true false false false
unfolding sum_of difference_of product_of quotient_of
row19 = refl

row20 : difference_of 2 7 34380 false ≡ coded 31163 false false false true
unfolding sum_of difference_of product_of quotient_of
row20 = refl

row21 : difference_of 2 50472 41 false ≡ coded 50431 true false false false
unfolding sum_of difference_of product_of quotient_of
row21 = refl

row22 : product_of 2 0 32639 ≡ coded 0 false true false false
unfolding sum_of difference_of product_of quotient_of
row22 = refl

row23 : product_of 2 256 65535 ≡ coded 65280 true false false false
unfolding sum_of difference_of product_of quotient_of
row23 = refl

row24 : product_of 2 34779 32639 ≡ coded 2725 false false true false
unfolding sum_of difference_of product_of quotient_of
row24 = refl

row25 : quotient_of 2 65365 65535 ≡ coded 171 false false false false
unfolding sum_of difference_of product_of quotient_of
row25 = refl

row26 : quotient_of 2 65535 30618 ≡ coded 0 false true false false
unfolding sum_of difference_of product_of quotient_of
row26 = refl

row27 : quotient_of 2 126 0 ≡ coded 126 false false true false
unfolding sum_of difference_of product_of quotient_of
row27 = refl

row28 : quotient_of 2 7 65535 ≡ coded 65529 true false false false
unfolding sum_of difference_of product_of quotient_of
row28 = refl

row29 : negation_of 2 59290 ≡ coded 6246 false false false true
unfolding sum_of difference_of product_of quotient_of
row29 = refl

row30 : negation_of 2 14 ≡ coded 65522 true false false true
unfolding sum_of difference_of product_of quotient_of
row30 = refl

row31 : difference_of 2 43263 1 false ≡ coded 43262 true false false false
unfolding sum_of difference_of product_of quotient_of
row31 = refl

row32 : sum_of 4 2147483648 53 false ≡ coded 2147483701 true false false false
unfolding sum_of difference_of product_of quotient_of
row32 = refl

row33 : sum_of 4 1512240914 4294967168 false ≡ coded 1512240786 false false false true
unfolding sum_of difference_of product_of quotient_of
row33 = refl

row34 : sum_of 4 2139062143 5216 false ≡ coded 2139067359 false false false false
unfolding sum_of difference_of product_of quotient_of
row34 = refl

row35 : difference_of 4 4232 4286926575 false ≡ coded 8044953 false false false true
unfolding sum_of difference_of product_of quotient_of
row35 = refl

row36 : difference_of 4 11 13209799 false ≡ coded 4281757508 true false false true
unfolding sum_of difference_of product_of quotient_of
row36 = refl

row37 : difference_of 4 346 16 false ≡ coded 330 false false false false
unfolding sum_of difference_of product_of quotient_of
row37 = refl

row38 : product_of 4 2130706432 1084996484 ≡ coded 2080374784 false false true false
unfolding sum_of difference_of product_of quotient_of
row38 = refl

row39 : product_of 4 3967004182 5218 ≡ coded 2380422252 true false true false
unfolding sum_of difference_of product_of quotient_of
row39 = refl

row40 : quotient_of 4 2164260863 2781349 ≡ coded 4294966530 true false false false
unfolding sum_of difference_of product_of quotient_of
row40 = refl

row41 : quotient_of 4 1118223880 17 ≡ coded 65777875 false false false false
unfolding sum_of difference_of product_of quotient_of
row41 = refl

row42 : negation_of 4 2353647671 ≡ coded 1941319625 false false false true
unfolding sum_of difference_of product_of quotient_of
row42 = refl

row43 : negation_of 4 1431633920 ≡ coded 2863333376 true false false true
unfolding sum_of difference_of product_of quotient_of
row43 = refl

row44 : difference_of 4 4294967295 1 false ≡ coded 4294967294 true false false false
unfolding sum_of difference_of product_of quotient_of
row44 = refl

row45 : sum_of 4 127 4286578687 true ≡ coded 4286578815 true false false false
unfolding sum_of difference_of product_of quotient_of
row45 = refl

row46 : sum_of 4 2139062143 254 true ≡ coded 2139062398 false false false false
unfolding sum_of difference_of product_of quotient_of
row46 = refl

row47 : difference_of 4 1998979072 466737408 true ≡ coded 1532241663 false false false false
unfolding sum_of difference_of product_of quotient_of
row47 = refl

row48 : difference_of 4 6121180 2147483649 true ≡ coded 2153604826 true false true true
unfolding sum_of difference_of product_of quotient_of
row48 = refl

row49 : difference_of 4 4294967282 300695167 false ≡ coded 3994272115 true false false false
unfolding sum_of difference_of product_of quotient_of
row49 = refl

-- Words of the GNU assembler for Alpha, with the instructions that they spell.
use Rattle.std.proofs.Common.{◌≡◌, Some, None, refl}
use Rattle.std.specs.Prelude.{pos, negsuc}
use Rattle.alpha_encode.specs.declared.instr.AlphaInstr.TheVariants.{Memory, Branch, Operate, Jump, Pal}
use Rattle.alpha_encode.specs.declared.instr.Second.TheVariants.{Register, Literal}
use Rattle.alpha_encode.specs.declared.instr.MemoryOp.TheVariants as memory
use Rattle.alpha_encode.specs.declared.instr.BranchOp.TheVariants as branches
use Rattle.alpha_encode.specs.declared.instr.OperateOp.TheVariants as row
use Rattle.alpha_encode.specs.Words.{instr_at, word_of}

row1 : instr_at 539164664 ≡ Some (Memory memory.Lda 1 2 (negsuc 7))
row1 = refl

back1 : word_of (Memory memory.Lda 1 2 (negsuc 7)) ≡ 539164664
back1 = refl

row2 : instr_at 606273528 ≡ Some (Memory memory.Ldah 1 2 (negsuc 7))
row2 = refl

back2 : word_of (Memory memory.Ldah 1 2 (negsuc 7)) ≡ 606273528
back2 = refl

row3 : instr_at 740491256 ≡ Some (Memory memory.LdqU 1 2 (negsuc 7))
row3 = refl

back3 : word_of (Memory memory.LdqU 1 2 (negsuc 7)) ≡ 740491256
back3 = refl

row4 : instr_at 2686648312 ≡ Some (Memory memory.Ldl 1 2 (negsuc 7))
row4 = refl

back4 : word_of (Memory memory.Ldl 1 2 (negsuc 7)) ≡ 2686648312
back4 = refl

row5 : instr_at 2753757176 ≡ Some (Memory memory.Ldq 1 2 (negsuc 7))
row5 = refl

back5 : word_of (Memory memory.Ldq 1 2 (negsuc 7)) ≡ 2753757176
back5 = refl

row6 : instr_at 2820866040 ≡ Some (Memory memory.LdlL 1 2 (negsuc 7))
row6 = refl

back6 : word_of (Memory memory.LdlL 1 2 (negsuc 7)) ≡ 2820866040
back6 = refl

row7 : instr_at 2887974904 ≡ Some (Memory memory.LdqL 1 2 (negsuc 7))
row7 = refl

back7 : word_of (Memory memory.LdqL 1 2 (negsuc 7)) ≡ 2887974904
back7 = refl

row8 : instr_at 2955083768 ≡ Some (Memory memory.Stl 1 2 (negsuc 7))
row8 = refl

back8 : word_of (Memory memory.Stl 1 2 (negsuc 7)) ≡ 2955083768
back8 = refl

row9 : instr_at 3022192632 ≡ Some (Memory memory.Stq 1 2 (negsuc 7))
row9 = refl

back9 : word_of (Memory memory.Stq 1 2 (negsuc 7)) ≡ 3022192632
back9 = refl

row10 : instr_at 3089301496 ≡ Some (Memory memory.StlC 1 2 (negsuc 7))
row10 = refl

back10 : word_of (Memory memory.StlC 1 2 (negsuc 7)) ≡ 3089301496
back10 = refl

row11 : instr_at 3156410360 ≡ Some (Memory memory.StqC 1 2 (negsuc 7))
row11 = refl

back11 : word_of (Memory memory.StqC 1 2 (negsuc 7)) ≡ 3156410360
back11 = refl

row12 : instr_at 3223322627 ≡ Some (Branch branches.Br 1 (pos 3))
row12 = refl

back12 : word_of (Branch branches.Br 1 (pos 3)) ≡ 3223322627
back12 = refl

row13 : instr_at 3491758083 ≡ Some (Branch branches.Bsr 1 (pos 3))
row13 = refl

back13 : word_of (Branch branches.Bsr 1 (pos 3)) ≡ 3491758083
back13 = refl

row14 : instr_at 3760193539 ≡ Some (Branch branches.Blbc 1 (pos 3))
row14 = refl

back14 : word_of (Branch branches.Blbc 1 (pos 3)) ≡ 3760193539
back14 = refl

row15 : instr_at 3827302403 ≡ Some (Branch branches.Beq 1 (pos 3))
row15 = refl

back15 : word_of (Branch branches.Beq 1 (pos 3)) ≡ 3827302403
back15 = refl

row16 : instr_at 3894411267 ≡ Some (Branch branches.Blt 1 (pos 3))
row16 = refl

back16 : word_of (Branch branches.Blt 1 (pos 3)) ≡ 3894411267
back16 = refl

row17 : instr_at 3961520131 ≡ Some (Branch branches.Ble 1 (pos 3))
row17 = refl

back17 : word_of (Branch branches.Ble 1 (pos 3)) ≡ 3961520131
back17 = refl

row18 : instr_at 4028628995 ≡ Some (Branch branches.Blbs 1 (pos 3))
row18 = refl

back18 : word_of (Branch branches.Blbs 1 (pos 3)) ≡ 4028628995
back18 = refl

row19 : instr_at 4095737859 ≡ Some (Branch branches.Bne 1 (pos 3))
row19 = refl

back19 : word_of (Branch branches.Bne 1 (pos 3)) ≡ 4095737859
back19 = refl

row20 : instr_at 4162846723 ≡ Some (Branch branches.Bge 1 (pos 3))
row20 = refl

back20 : word_of (Branch branches.Bge 1 (pos 3)) ≡ 4162846723
back20 = refl

row21 : instr_at 4229955587 ≡ Some (Branch branches.Bgt 1 (pos 3))
row21 = refl

back21 : word_of (Branch branches.Bgt 1 (pos 3)) ≡ 4229955587
back21 = refl

row22 : instr_at 1075970051 ≡ Some (Operate row.Addl 1 (Register 2) 3)
row22 = refl

back22 : word_of (Operate row.Addl 1 (Register 2) 3) ≡ 1075970051
back22 = refl

row23 : instr_at 1077194755 ≡ Some (Operate row.Addl 1 (Literal 165) 3)
row23 = refl

back23 : word_of (Operate row.Addl 1 (Literal 165) 3) ≡ 1077194755
back23 = refl

row24 : instr_at 1075970339 ≡ Some (Operate row.Subl 1 (Register 2) 3)
row24 = refl

back24 : word_of (Operate row.Subl 1 (Register 2) 3) ≡ 1075970339
back24 = refl

row25 : instr_at 1077195043 ≡ Some (Operate row.Subl 1 (Literal 165) 3)
row25 = refl

back25 : word_of (Operate row.Subl 1 (Literal 165) 3) ≡ 1077195043
back25 = refl

row26 : instr_at 1075970979 ≡ Some (Operate row.Cmpult 1 (Register 2) 3)
row26 = refl

back26 : word_of (Operate row.Cmpult 1 (Register 2) 3) ≡ 1075970979
back26 = refl

row27 : instr_at 1077195683 ≡ Some (Operate row.Cmpult 1 (Literal 165) 3)
row27 = refl

back27 : word_of (Operate row.Cmpult 1 (Literal 165) 3) ≡ 1077195683
back27 = refl

row28 : instr_at 1075971075 ≡ Some (Operate row.Addq 1 (Register 2) 3)
row28 = refl

back28 : word_of (Operate row.Addq 1 (Register 2) 3) ≡ 1075971075
back28 = refl

row29 : instr_at 1077195779 ≡ Some (Operate row.Addq 1 (Literal 165) 3)
row29 = refl

back29 : word_of (Operate row.Addq 1 (Literal 165) 3) ≡ 1077195779
back29 = refl

row30 : instr_at 1075971139 ≡ Some (Operate row.S4addq 1 (Register 2) 3)
row30 = refl

back30 : word_of (Operate row.S4addq 1 (Register 2) 3) ≡ 1075971139
back30 = refl

row31 : instr_at 1077195843 ≡ Some (Operate row.S4addq 1 (Literal 165) 3)
row31 = refl

back31 : word_of (Operate row.S4addq 1 (Literal 165) 3) ≡ 1077195843
back31 = refl

row32 : instr_at 1075971363 ≡ Some (Operate row.Subq 1 (Register 2) 3)
row32 = refl

back32 : word_of (Operate row.Subq 1 (Register 2) 3) ≡ 1075971363
back32 = refl

row33 : instr_at 1077196067 ≡ Some (Operate row.Subq 1 (Literal 165) 3)
row33 = refl

back33 : word_of (Operate row.Subq 1 (Literal 165) 3) ≡ 1077196067
back33 = refl

row34 : instr_at 1075971491 ≡ Some (Operate row.Cmpeq 1 (Register 2) 3)
row34 = refl

back34 : word_of (Operate row.Cmpeq 1 (Register 2) 3) ≡ 1075971491
back34 = refl

row35 : instr_at 1077196195 ≡ Some (Operate row.Cmpeq 1 (Literal 165) 3)
row35 = refl

back35 : word_of (Operate row.Cmpeq 1 (Literal 165) 3) ≡ 1077196195
back35 = refl

row36 : instr_at 1075971651 ≡ Some (Operate row.S8addq 1 (Register 2) 3)
row36 = refl

back36 : word_of (Operate row.S8addq 1 (Register 2) 3) ≡ 1075971651
back36 = refl

row37 : instr_at 1077196355 ≡ Some (Operate row.S8addq 1 (Literal 165) 3)
row37 = refl

back37 : word_of (Operate row.S8addq 1 (Literal 165) 3) ≡ 1077196355
back37 = refl

row38 : instr_at 1075972003 ≡ Some (Operate row.Cmpule 1 (Register 2) 3)
row38 = refl

back38 : word_of (Operate row.Cmpule 1 (Register 2) 3) ≡ 1075972003
back38 = refl

row39 : instr_at 1077196707 ≡ Some (Operate row.Cmpule 1 (Literal 165) 3)
row39 = refl

back39 : word_of (Operate row.Cmpule 1 (Literal 165) 3) ≡ 1077196707
back39 = refl

row40 : instr_at 1075972515 ≡ Some (Operate row.Cmplt 1 (Register 2) 3)
row40 = refl

back40 : word_of (Operate row.Cmplt 1 (Register 2) 3) ≡ 1075972515
back40 = refl

row41 : instr_at 1077197219 ≡ Some (Operate row.Cmplt 1 (Literal 165) 3)
row41 = refl

back41 : word_of (Operate row.Cmplt 1 (Literal 165) 3) ≡ 1077197219
back41 = refl

row42 : instr_at 1075973539 ≡ Some (Operate row.Cmple 1 (Register 2) 3)
row42 = refl

back42 : word_of (Operate row.Cmple 1 (Register 2) 3) ≡ 1075973539
back42 = refl

row43 : instr_at 1077198243 ≡ Some (Operate row.Cmple 1 (Literal 165) 3)
row43 = refl

back43 : word_of (Operate row.Cmple 1 (Literal 165) 3) ≡ 1077198243
back43 = refl

row44 : instr_at 1143078915 ≡ Some (Operate row.And 1 (Register 2) 3)
row44 = refl

back44 : word_of (Operate row.And 1 (Register 2) 3) ≡ 1143078915
back44 = refl

row45 : instr_at 1144303619 ≡ Some (Operate row.And 1 (Literal 165) 3)
row45 = refl

back45 : word_of (Operate row.And 1 (Literal 165) 3) ≡ 1144303619
back45 = refl

row46 : instr_at 1143079171 ≡ Some (Operate row.Bic 1 (Register 2) 3)
row46 = refl

back46 : word_of (Operate row.Bic 1 (Register 2) 3) ≡ 1143079171
back46 = refl

row47 : instr_at 1144303875 ≡ Some (Operate row.Bic 1 (Literal 165) 3)
row47 = refl

back47 : word_of (Operate row.Bic 1 (Literal 165) 3) ≡ 1144303875
back47 = refl

row48 : instr_at 1143079939 ≡ Some (Operate row.Bis 1 (Register 2) 3)
row48 = refl

back48 : word_of (Operate row.Bis 1 (Register 2) 3) ≡ 1143079939
back48 = refl

row49 : instr_at 1144304643 ≡ Some (Operate row.Bis 1 (Literal 165) 3)
row49 = refl

back49 : word_of (Operate row.Bis 1 (Literal 165) 3) ≡ 1144304643
back49 = refl

row50 : instr_at 1143080067 ≡ Some (Operate row.Cmoveq 1 (Register 2) 3)
row50 = refl

back50 : word_of (Operate row.Cmoveq 1 (Register 2) 3) ≡ 1143080067
back50 = refl

row51 : instr_at 1144304771 ≡ Some (Operate row.Cmoveq 1 (Literal 165) 3)
row51 = refl

back51 : word_of (Operate row.Cmoveq 1 (Literal 165) 3) ≡ 1144304771
back51 = refl

row52 : instr_at 1143080131 ≡ Some (Operate row.Cmovne 1 (Register 2) 3)
row52 = refl

back52 : word_of (Operate row.Cmovne 1 (Register 2) 3) ≡ 1143080131
back52 = refl

row53 : instr_at 1144304835 ≡ Some (Operate row.Cmovne 1 (Literal 165) 3)
row53 = refl

back53 : word_of (Operate row.Cmovne 1 (Literal 165) 3) ≡ 1144304835
back53 = refl

row54 : instr_at 1143080195 ≡ Some (Operate row.Ornot 1 (Register 2) 3)
row54 = refl

back54 : word_of (Operate row.Ornot 1 (Register 2) 3) ≡ 1143080195
back54 = refl

row55 : instr_at 1144304899 ≡ Some (Operate row.Ornot 1 (Literal 165) 3)
row55 = refl

back55 : word_of (Operate row.Ornot 1 (Literal 165) 3) ≡ 1144304899
back55 = refl

row56 : instr_at 1143080963 ≡ Some (Operate row.Xor 1 (Register 2) 3)
row56 = refl

back56 : word_of (Operate row.Xor 1 (Register 2) 3) ≡ 1143080963
back56 = refl

row57 : instr_at 1144305667 ≡ Some (Operate row.Xor 1 (Literal 165) 3)
row57 = refl

back57 : word_of (Operate row.Xor 1 (Literal 165) 3) ≡ 1144305667
back57 = refl

row58 : instr_at 1143081219 ≡ Some (Operate row.Eqv 1 (Register 2) 3)
row58 = refl

back58 : word_of (Operate row.Eqv 1 (Register 2) 3) ≡ 1143081219
back58 = refl

row59 : instr_at 1144305923 ≡ Some (Operate row.Eqv 1 (Literal 165) 3)
row59 = refl

back59 : word_of (Operate row.Eqv 1 (Literal 165) 3) ≡ 1144305923
back59 = refl

row60 : instr_at 1210187843 ≡ Some (Operate row.Mskbl 1 (Register 2) 3)
row60 = refl

back60 : word_of (Operate row.Mskbl 1 (Register 2) 3) ≡ 1210187843
back60 = refl

row61 : instr_at 1211412547 ≡ Some (Operate row.Mskbl 1 (Literal 165) 3)
row61 = refl

back61 : word_of (Operate row.Mskbl 1 (Literal 165) 3) ≡ 1211412547
back61 = refl

row62 : instr_at 1210187971 ≡ Some (Operate row.Extbl 1 (Register 2) 3)
row62 = refl

back62 : word_of (Operate row.Extbl 1 (Register 2) 3) ≡ 1210187971
back62 = refl

row63 : instr_at 1211412675 ≡ Some (Operate row.Extbl 1 (Literal 165) 3)
row63 = refl

back63 : word_of (Operate row.Extbl 1 (Literal 165) 3) ≡ 1211412675
back63 = refl

row64 : instr_at 1210188131 ≡ Some (Operate row.Insbl 1 (Register 2) 3)
row64 = refl

back64 : word_of (Operate row.Insbl 1 (Register 2) 3) ≡ 1210188131
back64 = refl

row65 : instr_at 1211412835 ≡ Some (Operate row.Insbl 1 (Literal 165) 3)
row65 = refl

back65 : word_of (Operate row.Insbl 1 (Literal 165) 3) ≡ 1211412835
back65 = refl

row66 : instr_at 1210188355 ≡ Some (Operate row.Mskwl 1 (Register 2) 3)
row66 = refl

back66 : word_of (Operate row.Mskwl 1 (Register 2) 3) ≡ 1210188355
back66 = refl

row67 : instr_at 1211413059 ≡ Some (Operate row.Mskwl 1 (Literal 165) 3)
row67 = refl

back67 : word_of (Operate row.Mskwl 1 (Literal 165) 3) ≡ 1211413059
back67 = refl

row68 : instr_at 1210188483 ≡ Some (Operate row.Extwl 1 (Register 2) 3)
row68 = refl

back68 : word_of (Operate row.Extwl 1 (Register 2) 3) ≡ 1210188483
back68 = refl

row69 : instr_at 1211413187 ≡ Some (Operate row.Extwl 1 (Literal 165) 3)
row69 = refl

back69 : word_of (Operate row.Extwl 1 (Literal 165) 3) ≡ 1211413187
back69 = refl

row70 : instr_at 1210188643 ≡ Some (Operate row.Inswl 1 (Register 2) 3)
row70 = refl

back70 : word_of (Operate row.Inswl 1 (Register 2) 3) ≡ 1210188643
back70 = refl

row71 : instr_at 1211413347 ≡ Some (Operate row.Inswl 1 (Literal 165) 3)
row71 = refl

back71 : word_of (Operate row.Inswl 1 (Literal 165) 3) ≡ 1211413347
back71 = refl

row72 : instr_at 1210188867 ≡ Some (Operate row.Mskll 1 (Register 2) 3)
row72 = refl

back72 : word_of (Operate row.Mskll 1 (Register 2) 3) ≡ 1210188867
back72 = refl

row73 : instr_at 1211413571 ≡ Some (Operate row.Mskll 1 (Literal 165) 3)
row73 = refl

back73 : word_of (Operate row.Mskll 1 (Literal 165) 3) ≡ 1211413571
back73 = refl

row74 : instr_at 1210188995 ≡ Some (Operate row.Extll 1 (Register 2) 3)
row74 = refl

back74 : word_of (Operate row.Extll 1 (Register 2) 3) ≡ 1210188995
back74 = refl

row75 : instr_at 1211413699 ≡ Some (Operate row.Extll 1 (Literal 165) 3)
row75 = refl

back75 : word_of (Operate row.Extll 1 (Literal 165) 3) ≡ 1211413699
back75 = refl

row76 : instr_at 1210189155 ≡ Some (Operate row.Insll 1 (Register 2) 3)
row76 = refl

back76 : word_of (Operate row.Insll 1 (Register 2) 3) ≡ 1210189155
back76 = refl

row77 : instr_at 1211413859 ≡ Some (Operate row.Insll 1 (Literal 165) 3)
row77 = refl

back77 : word_of (Operate row.Insll 1 (Literal 165) 3) ≡ 1211413859
back77 = refl

row78 : instr_at 1210189315 ≡ Some (Operate row.Zap 1 (Register 2) 3)
row78 = refl

back78 : word_of (Operate row.Zap 1 (Register 2) 3) ≡ 1210189315
back78 = refl

row79 : instr_at 1211414019 ≡ Some (Operate row.Zap 1 (Literal 165) 3)
row79 = refl

back79 : word_of (Operate row.Zap 1 (Literal 165) 3) ≡ 1211414019
back79 = refl

row80 : instr_at 1210189347 ≡ Some (Operate row.Zapnot 1 (Register 2) 3)
row80 = refl

back80 : word_of (Operate row.Zapnot 1 (Register 2) 3) ≡ 1210189347
back80 = refl

row81 : instr_at 1211414051 ≡ Some (Operate row.Zapnot 1 (Literal 165) 3)
row81 = refl

back81 : word_of (Operate row.Zapnot 1 (Literal 165) 3) ≡ 1211414051
back81 = refl

row82 : instr_at 1210189379 ≡ Some (Operate row.Mskql 1 (Register 2) 3)
row82 = refl

back82 : word_of (Operate row.Mskql 1 (Register 2) 3) ≡ 1210189379
back82 = refl

row83 : instr_at 1211414083 ≡ Some (Operate row.Mskql 1 (Literal 165) 3)
row83 = refl

back83 : word_of (Operate row.Mskql 1 (Literal 165) 3) ≡ 1211414083
back83 = refl

row84 : instr_at 1210189443 ≡ Some (Operate row.Srl 1 (Register 2) 3)
row84 = refl

back84 : word_of (Operate row.Srl 1 (Register 2) 3) ≡ 1210189443
back84 = refl

row85 : instr_at 1211414147 ≡ Some (Operate row.Srl 1 (Literal 165) 3)
row85 = refl

back85 : word_of (Operate row.Srl 1 (Literal 165) 3) ≡ 1211414147
back85 = refl

row86 : instr_at 1210189507 ≡ Some (Operate row.Extql 1 (Register 2) 3)
row86 = refl

back86 : word_of (Operate row.Extql 1 (Register 2) 3) ≡ 1210189507
back86 = refl

row87 : instr_at 1211414211 ≡ Some (Operate row.Extql 1 (Literal 165) 3)
row87 = refl

back87 : word_of (Operate row.Extql 1 (Literal 165) 3) ≡ 1211414211
back87 = refl

row88 : instr_at 1210189603 ≡ Some (Operate row.Sll 1 (Register 2) 3)
row88 = refl

back88 : word_of (Operate row.Sll 1 (Register 2) 3) ≡ 1210189603
back88 = refl

row89 : instr_at 1211414307 ≡ Some (Operate row.Sll 1 (Literal 165) 3)
row89 = refl

back89 : word_of (Operate row.Sll 1 (Literal 165) 3) ≡ 1211414307
back89 = refl

row90 : instr_at 1210189667 ≡ Some (Operate row.Insql 1 (Register 2) 3)
row90 = refl

back90 : word_of (Operate row.Insql 1 (Register 2) 3) ≡ 1210189667
back90 = refl

row91 : instr_at 1211414371 ≡ Some (Operate row.Insql 1 (Literal 165) 3)
row91 = refl

back91 : word_of (Operate row.Insql 1 (Literal 165) 3) ≡ 1211414371
back91 = refl

row92 : instr_at 1210189699 ≡ Some (Operate row.Sra 1 (Register 2) 3)
row92 = refl

back92 : word_of (Operate row.Sra 1 (Register 2) 3) ≡ 1210189699
back92 = refl

row93 : instr_at 1211414403 ≡ Some (Operate row.Sra 1 (Literal 165) 3)
row93 = refl

back93 : word_of (Operate row.Sra 1 (Literal 165) 3) ≡ 1211414403
back93 = refl

row94 : instr_at 1210190403 ≡ Some (Operate row.Mskwh 1 (Register 2) 3)
row94 = refl

back94 : word_of (Operate row.Mskwh 1 (Register 2) 3) ≡ 1210190403
back94 = refl

row95 : instr_at 1211415107 ≡ Some (Operate row.Mskwh 1 (Literal 165) 3)
row95 = refl

back95 : word_of (Operate row.Mskwh 1 (Literal 165) 3) ≡ 1211415107
back95 = refl

row96 : instr_at 1210190563 ≡ Some (Operate row.Inswh 1 (Register 2) 3)
row96 = refl

back96 : word_of (Operate row.Inswh 1 (Register 2) 3) ≡ 1210190563
back96 = refl

row97 : instr_at 1211415267 ≡ Some (Operate row.Inswh 1 (Literal 165) 3)
row97 = refl

back97 : word_of (Operate row.Inswh 1 (Literal 165) 3) ≡ 1211415267
back97 = refl

row98 : instr_at 1210190659 ≡ Some (Operate row.Extwh 1 (Register 2) 3)
row98 = refl

back98 : word_of (Operate row.Extwh 1 (Register 2) 3) ≡ 1210190659
back98 = refl

row99 : instr_at 1211415363 ≡ Some (Operate row.Extwh 1 (Literal 165) 3)
row99 = refl

back99 : word_of (Operate row.Extwh 1 (Literal 165) 3) ≡ 1211415363
back99 = refl

row100 : instr_at 1210190915 ≡ Some (Operate row.Msklh 1 (Register 2) 3)
row100 = refl

back100 : word_of (Operate row.Msklh 1 (Register 2) 3) ≡ 1210190915
back100 = refl

row101 : instr_at 1211415619 ≡ Some (Operate row.Msklh 1 (Literal 165) 3)
row101 = refl

back101 : word_of (Operate row.Msklh 1 (Literal 165) 3) ≡ 1211415619
back101 = refl

row102 : instr_at 1210191075 ≡ Some (Operate row.Inslh 1 (Register 2) 3)
row102 = refl

back102 : word_of (Operate row.Inslh 1 (Register 2) 3) ≡ 1210191075
back102 = refl

row103 : instr_at 1211415779 ≡ Some (Operate row.Inslh 1 (Literal 165) 3)
row103 = refl

back103 : word_of (Operate row.Inslh 1 (Literal 165) 3) ≡ 1211415779
back103 = refl

row104 : instr_at 1210191171 ≡ Some (Operate row.Extlh 1 (Register 2) 3)
row104 = refl

back104 : word_of (Operate row.Extlh 1 (Register 2) 3) ≡ 1210191171
back104 = refl

row105 : instr_at 1211415875 ≡ Some (Operate row.Extlh 1 (Literal 165) 3)
row105 = refl

back105 : word_of (Operate row.Extlh 1 (Literal 165) 3) ≡ 1211415875
back105 = refl

row106 : instr_at 1210191427 ≡ Some (Operate row.Mskqh 1 (Register 2) 3)
row106 = refl

back106 : word_of (Operate row.Mskqh 1 (Register 2) 3) ≡ 1210191427
back106 = refl

row107 : instr_at 1211416131 ≡ Some (Operate row.Mskqh 1 (Literal 165) 3)
row107 = refl

back107 : word_of (Operate row.Mskqh 1 (Literal 165) 3) ≡ 1211416131
back107 = refl

row108 : instr_at 1210191587 ≡ Some (Operate row.Insqh 1 (Register 2) 3)
row108 = refl

back108 : word_of (Operate row.Insqh 1 (Register 2) 3) ≡ 1210191587
back108 = refl

row109 : instr_at 1211416291 ≡ Some (Operate row.Insqh 1 (Literal 165) 3)
row109 = refl

back109 : word_of (Operate row.Insqh 1 (Literal 165) 3) ≡ 1211416291
back109 = refl

row110 : instr_at 1210191683 ≡ Some (Operate row.Extqh 1 (Register 2) 3)
row110 = refl

back110 : word_of (Operate row.Extqh 1 (Register 2) 3) ≡ 1210191683
back110 = refl

row111 : instr_at 1211416387 ≡ Some (Operate row.Extqh 1 (Literal 165) 3)
row111 = refl

back111 : word_of (Operate row.Extqh 1 (Literal 165) 3) ≡ 1211416387
back111 = refl

row112 : instr_at 1277296643 ≡ Some (Operate row.Mull 1 (Register 2) 3)
row112 = refl

back112 : word_of (Operate row.Mull 1 (Register 2) 3) ≡ 1277296643
back112 = refl

row113 : instr_at 1278521347 ≡ Some (Operate row.Mull 1 (Literal 165) 3)
row113 = refl

back113 : word_of (Operate row.Mull 1 (Literal 165) 3) ≡ 1278521347
back113 = refl

row114 : instr_at 1277297667 ≡ Some (Operate row.Mulq 1 (Register 2) 3)
row114 = refl

back114 : word_of (Operate row.Mulq 1 (Register 2) 3) ≡ 1277297667
back114 = refl

row115 : instr_at 1278522371 ≡ Some (Operate row.Mulq 1 (Literal 165) 3)
row115 = refl

back115 : word_of (Operate row.Mulq 1 (Literal 165) 3) ≡ 1278522371
back115 = refl

row116 : instr_at 1277298179 ≡ Some (Operate row.Umulh 1 (Register 2) 3)
row116 = refl

back116 : word_of (Operate row.Umulh 1 (Register 2) 3) ≡ 1277298179
back116 = refl

row117 : instr_at 1278522883 ≡ Some (Operate row.Umulh 1 (Literal 165) 3)
row117 = refl

back117 : word_of (Operate row.Umulh 1 (Literal 165) 3) ≡ 1278522883
back117 = refl

row118 : instr_at 1747058688 ≡ Some (Jump 1 2)
row118 = refl

back118 : word_of (Jump 1 2) ≡ 1747058688
back118 = refl

row119 : instr_at 128 ≡ Some (Pal 128)
row119 = refl

back119 : word_of (Pal 128) ≡ 128
back119 = refl

row120 : instr_at 129 ≡ Some (Pal 129)
row120 = refl

back120 : word_of (Pal 129) ≡ 129
back120 = refl

row121 : instr_at 130 ≡ Some (Pal 130)
row121 = refl

back121 : word_of (Pal 130) ≡ 130
back121 = refl

row122 : instr_at 131 ≡ Some (Pal 131)
row122 = refl

back122 : word_of (Pal 131) ≡ 131
back122 = refl

row123 : instr_at 132 ≡ Some (Pal 132)
row123 = refl

back123 : word_of (Pal 132) ≡ 132
back123 = refl

row124 : instr_at 133 ≡ Some (Pal 133)
row124 = refl

back124 : word_of (Pal 133) ≡ 133
back124 = refl

row125 : instr_at 134 ≡ Some (Pal 134)
row125 = refl

back125 : word_of (Pal 134) ≡ 134
back125 = refl

row126 : instr_at 538902533 ≡ Some (Memory memory.Lda 0 31 (pos 5))
row126 = refl

back126 : word_of (Memory memory.Lda 0 31 (pos 5)) ≡ 538902533
back126 = refl

row127 : instr_at 805175296 ≡ Some (Memory memory.LdqU 31 30 (pos 0))
row127 = refl

back127 : word_of (Memory memory.LdqU 31 30 (pos 0)) ≡ 805175296
back127 = refl

row128 : instr_at 1207895071 ≡ Some (Operate row.Bis 31 (Register 31) 31)
row128 = refl

back128 : word_of (Operate row.Bis 31 (Register 31) 31) ≡ 1207895071
back128 = refl

row129 : instr_at 2887909376 ≡ Some (Memory memory.LdqL 1 2 (pos 0))
row129 = refl

back129 : word_of (Memory memory.LdqL 1 2 (pos 0)) ≡ 2887909376
back129 = refl

row130 : instr_at 3156344832 ≡ Some (Memory memory.StqC 1 2 (pos 0))
row130 = refl

back130 : word_of (Memory memory.StqC 1 2 (pos 0)) ≡ 3156344832
back130 = refl

row131 : instr_at 1210187971 ≡ Some (Operate row.Extbl 1 (Register 2) 3)
row131 = refl

back131 : word_of (Operate row.Extbl 1 (Register 2) 3) ≡ 1210187971
back131 = refl

row132 : instr_at 1075908609 ≡ Some (Operate row.Addl 1 (Literal 8) 1)
row132 = refl

back132 : word_of (Operate row.Addl 1 (Literal 8) 1) ≡ 1075908609
back132 = refl

row133 : instr_at 3288334335 ≡ Some (Branch branches.Br 31 (negsuc 0))
row133 = refl

back133 : word_of (Branch branches.Br 31 (negsuc 0)) ≡ 3288334335
back133 = refl

row134 : instr_at 4294967295 ≡ Some (Branch branches.Bgt 31 (negsuc 0))
row134 = refl

back134 : word_of (Branch branches.Bgt 31 (negsuc 0)) ≡ 4294967295
back134 = refl

row135 : instr_at 130 ≡ Some (Pal 130)
row135 = refl

back135 : word_of (Pal 130) ≡ 130
back135 = refl

row136 : instr_at 673316864 ≡ Some (Memory memory.Ldbu 1 2 (pos 0))
row136 = refl

back136 : word_of (Memory memory.Ldbu 1 2 (pos 0)) ≡ 673316864
back136 = refl

row137 : instr_at 736231424 ≡ Some (Memory memory.Ldbu 31 2 (pos 0))
row137 = refl

back137 : word_of (Memory memory.Ldbu 31 2 (pos 0)) ≡ 736231424
back137 = refl

row138 : instr_at 675217408 ≡ Some (Memory memory.Ldbu 1 31 (pos 0))
row138 = refl

back138 : word_of (Memory memory.Ldbu 1 31 (pos 0)) ≡ 675217408
back138 = refl

row139 : instr_at 673349631 ≡ Some (Memory memory.Ldbu 1 2 (pos 32767))
row139 = refl

back139 : word_of (Memory memory.Ldbu 1 2 (pos 32767)) ≡ 673349631
back139 = refl

row140 : instr_at 673349632 ≡ Some (Memory memory.Ldbu 1 2 (negsuc 32767))
row140 = refl

back140 : word_of (Memory memory.Ldbu 1 2 (negsuc 32767)) ≡ 673349632
back140 = refl

row141 : instr_at 738164735 ≡ Some (Memory memory.Ldbu 31 31 (pos 32767))
row141 = refl

back141 : word_of (Memory memory.Ldbu 31 31 (pos 32767)) ≡ 738164735
back141 = refl

row142 : instr_at 807534592 ≡ Some (Memory memory.Ldwu 1 2 (pos 0))
row142 = refl

back142 : word_of (Memory memory.Ldwu 1 2 (pos 0)) ≡ 807534592
back142 = refl

row143 : instr_at 870449152 ≡ Some (Memory memory.Ldwu 31 2 (pos 0))
row143 = refl

back143 : word_of (Memory memory.Ldwu 31 2 (pos 0)) ≡ 870449152
back143 = refl

row144 : instr_at 809435136 ≡ Some (Memory memory.Ldwu 1 31 (pos 0))
row144 = refl

back144 : word_of (Memory memory.Ldwu 1 31 (pos 0)) ≡ 809435136
back144 = refl

row145 : instr_at 807567359 ≡ Some (Memory memory.Ldwu 1 2 (pos 32767))
row145 = refl

back145 : word_of (Memory memory.Ldwu 1 2 (pos 32767)) ≡ 807567359
back145 = refl

row146 : instr_at 807567360 ≡ Some (Memory memory.Ldwu 1 2 (negsuc 32767))
row146 = refl

back146 : word_of (Memory memory.Ldwu 1 2 (negsuc 32767)) ≡ 807567360
back146 = refl

row147 : instr_at 872382463 ≡ Some (Memory memory.Ldwu 31 31 (pos 32767))
row147 = refl

back147 : word_of (Memory memory.Ldwu 31 31 (pos 32767)) ≡ 872382463
back147 = refl

row148 : instr_at 874643456 ≡ Some (Memory memory.Stw 1 2 (pos 0))
row148 = refl

back148 : word_of (Memory memory.Stw 1 2 (pos 0)) ≡ 874643456
back148 = refl

row149 : instr_at 937558016 ≡ Some (Memory memory.Stw 31 2 (pos 0))
row149 = refl

back149 : word_of (Memory memory.Stw 31 2 (pos 0)) ≡ 937558016
back149 = refl

row150 : instr_at 876544000 ≡ Some (Memory memory.Stw 1 31 (pos 0))
row150 = refl

back150 : word_of (Memory memory.Stw 1 31 (pos 0)) ≡ 876544000
back150 = refl

row151 : instr_at 874676223 ≡ Some (Memory memory.Stw 1 2 (pos 32767))
row151 = refl

back151 : word_of (Memory memory.Stw 1 2 (pos 32767)) ≡ 874676223
back151 = refl

row152 : instr_at 874676224 ≡ Some (Memory memory.Stw 1 2 (negsuc 32767))
row152 = refl

back152 : word_of (Memory memory.Stw 1 2 (negsuc 32767)) ≡ 874676224
back152 = refl

row153 : instr_at 939491327 ≡ Some (Memory memory.Stw 31 31 (pos 32767))
row153 = refl

back153 : word_of (Memory memory.Stw 31 31 (pos 32767)) ≡ 939491327
back153 = refl

row154 : instr_at 941752320 ≡ Some (Memory memory.Stb 1 2 (pos 0))
row154 = refl

back154 : word_of (Memory memory.Stb 1 2 (pos 0)) ≡ 941752320
back154 = refl

row155 : instr_at 1004666880 ≡ Some (Memory memory.Stb 31 2 (pos 0))
row155 = refl

back155 : word_of (Memory memory.Stb 31 2 (pos 0)) ≡ 1004666880
back155 = refl

row156 : instr_at 943652864 ≡ Some (Memory memory.Stb 1 31 (pos 0))
row156 = refl

back156 : word_of (Memory memory.Stb 1 31 (pos 0)) ≡ 943652864
back156 = refl

row157 : instr_at 941785087 ≡ Some (Memory memory.Stb 1 2 (pos 32767))
row157 = refl

back157 : word_of (Memory memory.Stb 1 2 (pos 32767)) ≡ 941785087
back157 = refl

row158 : instr_at 941785088 ≡ Some (Memory memory.Stb 1 2 (negsuc 32767))
row158 = refl

back158 : word_of (Memory memory.Stb 1 2 (negsuc 32767)) ≡ 941785088
back158 = refl

row159 : instr_at 1006600191 ≡ Some (Memory memory.Stb 31 31 (pos 32767))
row159 = refl

back159 : word_of (Memory memory.Stb 31 31 (pos 32767)) ≡ 1006600191
back159 = refl

row160 : instr_at 1944190977 ≡ Some (Operate row.Sextb 31 (Register 2) 1)
row160 = refl

back160 : word_of (Operate row.Sextb 31 (Register 2) 1) ≡ 1944190977
back160 = refl

row161 : instr_at 1946091521 ≡ Some (Operate row.Sextb 31 (Register 31) 1)
row161 = refl

back161 : word_of (Operate row.Sextb 31 (Register 31) 1) ≡ 1946091521
back161 = refl

row162 : instr_at 1944191007 ≡ Some (Operate row.Sextb 31 (Register 2) 31)
row162 = refl

back162 : word_of (Operate row.Sextb 31 (Register 2) 31) ≡ 1944191007
back162 = refl

row163 : instr_at 1946091551 ≡ Some (Operate row.Sextb 31 (Register 31) 31)
row163 = refl

back163 : word_of (Operate row.Sextb 31 (Register 31) 31) ≡ 1946091551
back163 = refl

row164 : instr_at 1944059934 ≡ Some (Operate row.Sextb 31 (Register 0) 30)
row164 = refl

back164 : word_of (Operate row.Sextb 31 (Register 0) 30) ≡ 1944059934
back164 = refl

row165 : instr_at 1944191009 ≡ Some (Operate row.Sextw 31 (Register 2) 1)
row165 = refl

back165 : word_of (Operate row.Sextw 31 (Register 2) 1) ≡ 1944191009
back165 = refl

row166 : instr_at 1946091553 ≡ Some (Operate row.Sextw 31 (Register 31) 1)
row166 = refl

back166 : word_of (Operate row.Sextw 31 (Register 31) 1) ≡ 1946091553
back166 = refl

row167 : instr_at 1944191039 ≡ Some (Operate row.Sextw 31 (Register 2) 31)
row167 = refl

back167 : word_of (Operate row.Sextw 31 (Register 2) 31) ≡ 1944191039
back167 = refl

row168 : instr_at 1946091583 ≡ Some (Operate row.Sextw 31 (Register 31) 31)
row168 = refl

back168 : word_of (Operate row.Sextw 31 (Register 31) 31) ≡ 1946091583
back168 = refl

row169 : instr_at 1944059966 ≡ Some (Operate row.Sextw 31 (Register 0) 30)
row169 = refl

back169 : word_of (Operate row.Sextw 31 (Register 0) 30) ≡ 1944059966
back169 = refl

row170 : instr_at 1944064003 ≡ Some (Operate row.Sextb 31 (Literal 0) 3)
row170 = refl

back170 : word_of (Operate row.Sextb 31 (Literal 0) 3) ≡ 1944064003
back170 = refl

row171 : instr_at 1945415683 ≡ Some (Operate row.Sextb 31 (Literal 165) 3)
row171 = refl

back171 : word_of (Operate row.Sextb 31 (Literal 165) 3) ≡ 1945415683
back171 = refl

row172 : instr_at 1946152963 ≡ Some (Operate row.Sextb 31 (Literal 255) 3)
row172 = refl

back172 : word_of (Operate row.Sextb 31 (Literal 255) 3) ≡ 1946152963
back172 = refl

row173 : instr_at 1944064035 ≡ Some (Operate row.Sextw 31 (Literal 0) 3)
row173 = refl

back173 : word_of (Operate row.Sextw 31 (Literal 0) 3) ≡ 1944064035
back173 = refl

row174 : instr_at 1945415715 ≡ Some (Operate row.Sextw 31 (Literal 165) 3)
row174 = refl

back174 : word_of (Operate row.Sextw 31 (Literal 165) 3) ≡ 1945415715
back174 = refl

row175 : instr_at 1946152995 ≡ Some (Operate row.Sextw 31 (Literal 255) 3)
row175 = refl

back175 : word_of (Operate row.Sextw 31 (Literal 255) 3) ≡ 1946152995
back175 = refl

row176 : instr_at 135 ≡ None
row176 = refl

row177 : instr_at 1075978243 ≡ None
row177 = refl

row178 : instr_at 1747058689 ≡ None
row178 = refl

row179 : instr_at 1879179265 ≡ None
row179 = refl

row180 : instr_at 1881276417 ≡ None
row180 = refl

row181 : instr_at 1883373569 ≡ None
row181 = refl

row182 : instr_at 1885470721 ≡ None
row182 = refl

row183 : instr_at 1887567873 ≡ None
row183 = refl

row184 : instr_at 1889665025 ≡ None
row184 = refl

row185 : instr_at 1891762177 ≡ None
row185 = refl

row186 : instr_at 1893859329 ≡ None
row186 = refl

row187 : instr_at 1895956481 ≡ None
row187 = refl

row188 : instr_at 1898053633 ≡ None
row188 = refl

row189 : instr_at 1900150785 ≡ None
row189 = refl

row190 : instr_at 1902247937 ≡ None
row190 = refl

row191 : instr_at 1904345089 ≡ None
row191 = refl

row192 : instr_at 1906442241 ≡ None
row192 = refl

row193 : instr_at 1908539393 ≡ None
row193 = refl

row194 : instr_at 1910636545 ≡ None
row194 = refl

row195 : instr_at 1912733697 ≡ None
row195 = refl

row196 : instr_at 1914830849 ≡ None
row196 = refl

row197 : instr_at 1916928001 ≡ None
row197 = refl

row198 : instr_at 1919025153 ≡ None
row198 = refl

row199 : instr_at 1921122305 ≡ None
row199 = refl

row200 : instr_at 1923219457 ≡ None
row200 = refl

row201 : instr_at 1925316609 ≡ None
row201 = refl

row202 : instr_at 1927413761 ≡ None
row202 = refl

row203 : instr_at 1929510913 ≡ None
row203 = refl

row204 : instr_at 1931608065 ≡ None
row204 = refl

row205 : instr_at 1933705217 ≡ None
row205 = refl

row206 : instr_at 1935802369 ≡ None
row206 = refl

row207 : instr_at 1937899521 ≡ None
row207 = refl

row208 : instr_at 1939996673 ≡ None
row208 = refl

row209 : instr_at 1942093825 ≡ None
row209 = refl

row210 : instr_at 1879179297 ≡ None
row210 = refl

row211 : instr_at 1881276449 ≡ None
row211 = refl

row212 : instr_at 1883373601 ≡ None
row212 = refl

row213 : instr_at 1885470753 ≡ None
row213 = refl

row214 : instr_at 1887567905 ≡ None
row214 = refl

row215 : instr_at 1889665057 ≡ None
row215 = refl

row216 : instr_at 1891762209 ≡ None
row216 = refl

row217 : instr_at 1893859361 ≡ None
row217 = refl

row218 : instr_at 1895956513 ≡ None
row218 = refl

row219 : instr_at 1898053665 ≡ None
row219 = refl

row220 : instr_at 1900150817 ≡ None
row220 = refl

row221 : instr_at 1902247969 ≡ None
row221 = refl

row222 : instr_at 1904345121 ≡ None
row222 = refl

row223 : instr_at 1906442273 ≡ None
row223 = refl

row224 : instr_at 1908539425 ≡ None
row224 = refl

row225 : instr_at 1910636577 ≡ None
row225 = refl

row226 : instr_at 1912733729 ≡ None
row226 = refl

row227 : instr_at 1914830881 ≡ None
row227 = refl

row228 : instr_at 1916928033 ≡ None
row228 = refl

row229 : instr_at 1919025185 ≡ None
row229 = refl

row230 : instr_at 1921122337 ≡ None
row230 = refl

row231 : instr_at 1923219489 ≡ None
row231 = refl

row232 : instr_at 1925316641 ≡ None
row232 = refl

row233 : instr_at 1927413793 ≡ None
row233 = refl

row234 : instr_at 1929510945 ≡ None
row234 = refl

row235 : instr_at 1931608097 ≡ None
row235 = refl

row236 : instr_at 1933705249 ≡ None
row236 = refl

row237 : instr_at 1935802401 ≡ None
row237 = refl

row238 : instr_at 1937899553 ≡ None
row238 = refl

row239 : instr_at 1939996705 ≡ None
row239 = refl

row240 : instr_at 1942093857 ≡ None
row240 = refl

-- Alpha words, and their texts.
use Rattle.std.proofs.Common.{◌≡◌, ℕ, List, refl}
use Rattle.std.specs.Prelude.{codes}
use Rattle.std.specs.Fmt.{digits}
use Rattle.array_text.specs.Hexadecimal.{digits_within, hexadecimal}
use Rattle.alpha_text.specs.Names.{branch_name, memory_name, operate_name}
use Rattle.alpha_text.specs.Text.{is_single, word_text}

says : ℕ → List ℕ
unfolding digits digits_within hexadecimal branch_name memory_name operate_name is_single word_text
says word = word_text word

row1 : says 553910272 ≡ codes "lda $8,0($4)"
unfolding says
row1 = refl

row2 : says 603748581 ≡ codes "lda $31,30949($28)"
unfolding says
row2 = refl

row3 : says 588087296 ≡ codes "lda $24,-32768($13)"
unfolding says
row3 = refl

row4 : says 540606463 ≡ codes "lda $1,-1($24)"
unfolding says
row4 = refl

row5 : says 605832238 ≡ codes "ldah $0,17454($28)"
unfolding says
row5 = refl

row6 : says 633765887 ≡ codes "ldah $14,32767($6)"
unfolding says
row6 = refl

row7 : says 606144131 ≡ codes "ldah $1,1667($1)"
unfolding says
row7 = refl

row8 : says 605552641 ≡ codes "ldah $0,1($24)"
unfolding says
row8 = refl

row9 : says 727777281 ≡ codes "ldbu $27,1($1)"
unfolding says
row9 = refl

row10 : says 731840513 ≡ codes "ldbu $28,1($31)"
unfolding says
row10 = refl

row11 : says 718143489 ≡ codes "ldbu $22,1($14)"
unfolding says
row11 = refl

row12 : says 733085696 ≡ codes "ldbu $29,0($18)"
unfolding says
row12 = refl

row13 : says 793128855 ≡ codes "ldq_u $26,12183($6)"
unfolding says
row13 = refl

row14 : says 776437759 ≡ codes "ldq_u $18,32767($7)"
unfolding says
row14 = refl

row15 : says 795639807 ≡ codes "ldq_u $27,32767($12)"
unfolding says
row15 = refl

row16 : says 804847616 ≡ codes "ldq_u $31,0($25)"
unfolding says
row16 = refl

row17 : says 869236736 ≡ codes "ldwu $30,-32768($15)"
unfolding says
row17 = refl

row18 : says 860618751 ≡ codes "ldwu $26,-1($11)"
unfolding says
row18 = refl

row19 : says 853897311 ≡ codes "ldwu $23,28767($5)"
unfolding says
row19 = refl

row20 : says 818577408 ≡ codes "ldwu $6,-32768($10)"
unfolding says
row20 = refl

row21 : says 922681344 ≡ codes "stw $23,0($31)"
unfolding says
row21 = refl

row22 : says 935481083 ≡ codes "stw $30,20219($2)"
unfolding says
row22 = refl

row23 : says 925564927 ≡ codes "stw $25,-1($10)"
unfolding says
row23 = refl

row24 : says 901775361 ≡ codes "stw $14,1($0)"
unfolding says
row24 = refl

row25 : says 970555391 ≡ codes "stb $14,32767($25)"
unfolding says
row25 = refl

row26 : says 987594751 ≡ codes "stb $22,32767($29)"
unfolding says
row26 = refl

row27 : says 941148317 ≡ codes "stb $0,-14179($24)"
unfolding says
row27 = refl

row28 : says 957153280 ≡ codes "stb $8,0($13)"
unfolding says
row28 = refl

row29 : says 2748841983 ≡ codes "ldl $30,-1($23)"
unfolding says
row29 = refl

row30 : says 2711257087 ≡ codes "ldl $12,32767($26)"
unfolding says
row30 = refl

row31 : says 2740387839 ≡ codes "ldl $26,-1($22)"
unfolding says
row31 = refl

row32 : says 2730295296 ≡ codes "ldl $21,0($29)"
unfolding says
row32 = refl

row33 : says 2781609983 ≡ codes "ldq $14,-1($11)"
unfolding says
row33 = refl

row34 : says 2774925311 ≡ codes "ldq $11,-1($5)"
unfolding says
row34 = refl

row35 : says 2785204092 ≡ codes "ldq $16,-10372($2)"
unfolding says
row35 = refl

row36 : says 2760179712 ≡ codes "ldq $4,0($5)"
unfolding says
row36 = refl

row37 : says 2877325311 ≡ codes "ldl_l $28,32767($0)"
unfolding says
row37 = refl

row38 : says 2851209215 ≡ codes "ldl_l $15,-1($17)"
unfolding says
row38 = refl

row39 : says 2843082752 ≡ codes "ldl_l $11,0($22)"
unfolding says
row39 = refl

row40 : says 2840264703 ≡ codes "ldl_l $10,-1($10)"
unfolding says
row40 = refl

row41 : says 2907809264 ≡ codes "ldq_l $10,-23056($17)"
unfolding says
row41 = refl

row42 : says 2925363199 ≡ codes "ldq_l $18,32767($29)"
unfolding says
row42 = refl

row43 : says 2952658944 ≡ codes "ldq_l $31,0($30)"
unfolding says
row43 = refl

row44 : says 2927132672 ≡ codes "ldq_l $19,-32768($24)"
unfolding says
row44 = refl

row45 : says 2979037183 ≡ codes "stl $12,32767($16)"
unfolding says
row45 = refl

row46 : says 2981822464 ≡ codes "stl $13,0($27)"
unfolding says
row46 = refl

row47 : says 2982215681 ≡ codes "stl $14,1($1)"
unfolding says
row47 = refl

row48 : says 2957668887 ≡ codes "stl $2,29207($10)"
unfolding says
row48 = refl

row49 : says 3077503515 ≡ codes "stq $27,-1509($14)"
unfolding says
row49 = refl

row50 : says 3079570974 ≡ codes "stq $28,-31202($14)"
unfolding says
row50 = refl

row51 : says 3023699967 ≡ codes "stq $1,-1($25)"
unfolding says
row51 = refl

row52 : says 3063615244 ≡ codes "stq $20,3852($27)"
unfolding says
row52 = refl

row53 : says 3127377921 ≡ codes "stl_c $19,1($8)"
unfolding says
row53 = refl

row54 : says 3094544384 ≡ codes "stl_c $3,0($19)"
unfolding says
row54 = refl

row55 : says 3128098817 ≡ codes "stl_c $19,1($19)"
unfolding says
row55 = refl

row56 : says 3142582272 ≡ codes "stl_c $26,0($16)"
unfolding says
row56 = refl

row57 : says 3159228415 ≡ codes "stq_c $2,-1($13)"
unfolding says
row57 = refl

row58 : says 3215643634 ≡ codes "stq_c $29,-11278($10)"
unfolding says
row58 = refl

row59 : says 3159916543 ≡ codes "stq_c $2,32767($24)"
unfolding says
row59 = refl

row60 : says 3167589065 ≡ codes "stq_c $6,-27959($13)"
unfolding says
row60 = refl

row61 : says 3277848577 ≡ codes "br $27,.+8"
unfolding says
row61 = refl

row62 : says 3288334334 ≡ codes "br $31,.-4"
unfolding says
row62 = refl

row63 : says 3273654271 ≡ codes "br $24,.+0"
unfolding says
row63 = refl

row64 : says 3287285759 ≡ codes "br $31,.+4194304"
unfolding says
row64 = refl

row65 : says 3543138303 ≡ codes "bsr $25,.+4194304"
unfolding says
row65 = refl

row66 : says 3491758081 ≡ codes "bsr $1,.+8"
unfolding says
row66 = refl

row67 : says 3533701119 ≡ codes "bsr $20,.+0"
unfolding says
row67 = refl

row68 : says 3507486720 ≡ codes "bsr $8,.-4194300"
unfolding says
row68 = refl

row69 : says 3787456510 ≡ codes "blbc $13,.-4"
unfolding says
row69 = refl

row70 : says 3771727872 ≡ codes "blbc $6,.-4194300"
unfolding says
row70 = refl

row71 : says 3806151457 ≡ codes "blbc $22,.-717688"
unfolding says
row71 = refl

row72 : says 3825205247 ≡ codes "blbc $31,.+0"
unfolding says
row72 = refl

row73 : says 3858759678 ≡ codes "beq $15,.-4"
unfolding says
row73 = refl

row74 : says 3829399553 ≡ codes "beq $2,.+8"
unfolding says
row74 = refl

row75 : says 3848273919 ≡ codes "beq $10,.+0"
unfolding says
row75 = refl

row76 : says 3853030281 ≡ codes "beq $13,.+2248232"
unfolding says
row76 = refl

row77 : says 3938451455 ≡ codes "blt $21,.+0"
unfolding says
row77 = refl

row78 : says 3926917119 ≡ codes "blt $16,.+4194304"
unfolding says
row78 = refl

row79 : says 3937402879 ≡ codes "blt $21,.+4194304"
unfolding says
row79 = refl

row80 : says 3925868543 ≡ codes "blt $15,.+0"
unfolding says
row80 = refl

row81 : says 4026531839 ≡ codes "ble $31,.+0"
unfolding says
row81 = refl

row82 : says 3972005888 ≡ codes "ble $6,.+4"
unfolding says
row82 = refl

row83 : says 4014997504 ≡ codes "ble $26,.-4194300"
unfolding says
row83 = refl

row84 : says 3978297345 ≡ codes "ble $9,.+8"
unfolding says
row84 = refl

row85 : says 4072669183 ≡ codes "blbs $21,.+0"
unfolding says
row85 = refl

row86 : says 4078960639 ≡ codes "blbs $24,.+0"
unfolding says
row86 = refl

row87 : says 4055891968 ≡ codes "blbs $14,.+4"
unfolding says
row87 = refl

row88 : says 4063231999 ≡ codes "blbs $17,.+4194304"
unfolding says
row88 = refl

row89 : says 4109369343 ≡ codes "bne $7,.+4194304"
unfolding says
row89 = refl

row90 : says 4106223616 ≡ codes "bne $6,.+4"
unfolding says
row90 = refl

row91 : says 4133486591 ≡ codes "bne $18,.+0"
unfolding says
row91 = refl

row92 : says 4094689280 ≡ codes "bne $0,.-4194300"
unfolding says
row92 = refl

row93 : says 4177162131 ≡ codes "bge $7,.-1458608"
unfolding says
row93 = refl

row94 : says 4164943873 ≡ codes "bge $2,.+8"
unfolding says
row94 = refl

row95 : says 4215275520 ≡ codes "bge $26,.+4"
unfolding says
row95 = refl

row96 : says 4221566974 ≡ codes "bge $28,.-4"
unfolding says
row96 = refl

row97 : says 4261412862 ≡ codes "bgt $15,.-4"
unfolding says
row97 = refl

row98 : says 4241489920 ≡ codes "bgt $6,.-4194300"
unfolding says
row98 = refl

row99 : says 4266655743 ≡ codes "bgt $18,.+4194304"
unfolding says
row99 = refl

row100 : says 4290772992 ≡ codes "bgt $30,.+4"
unfolding says
row100 = refl

row101 : says 1101008898 ≡ codes "addl $13,0,$2"
unfolding says
row101 = refl

row102 : says 1117519897 ≡ codes "addl $20,$28,$25"
unfolding says
row102 = refl

row103 : says 1083441181 ≡ codes "addl $4,$20,$29"
unfolding says
row103 = refl

row104 : says 1136668688 ≡ codes "addl $30,1,$16"
unfolding says
row104 = refl

row105 : says 1099890999 ≡ codes "subl $12,$15,$23"
unfolding says
row105 = refl

row106 : says 1132474677 ≡ codes "subl $28,1,$21"
unfolding says
row106 = refl

row107 : says 1115681076 ≡ codes "subl $19,255,$20"
unfolding says
row107 = refl

row108 : says 1106575654 ≡ codes "subl $15,$21,$6"
unfolding says
row108 = refl

row109 : says 1103106991 ≡ codes "cmpult $14,0,$15"
unfolding says
row109 = refl

row110 : says 1082135457 ≡ codes "cmpult $4,0,$1"
unfolding says
row110 = refl

row111 : says 1121911742 ≡ codes "cmpult $22,$31,$30"
unfolding says
row111 = refl

row112 : says 1115947947 ≡ codes "cmpult $20,$4,$11"
unfolding says
row112 = refl

row113 : says 1116931078 ≡ codes "addq $20,$19,$6"
unfolding says
row113 = refl

row114 : says 1101595650 ≡ codes "addq $13,$9,$2"
unfolding says
row114 = refl

row115 : says 1098056731 ≡ codes "addq $11,$19,$27"
unfolding says
row115 = refl

row116 : says 1106629636 ≡ codes "addq $15,174,$4"
unfolding says
row116 = refl

row117 : says 1107317853 ≡ codes "s4addq $16,2,$29"
unfolding says
row117 = refl

row118 : says 1095763039 ≡ codes "s4addq $10,$16,$31"
unfolding says
row118 = refl

row119 : says 1081476168 ≡ codes "s4addq $3,$22,$8"
unfolding says
row119 = refl

row120 : says 1108411481 ≡ codes "s4addq $16,$17,$25"
unfolding says
row120 = refl

row121 : says 1084241215 ≡ codes "subq $5,1,$31"
unfolding says
row121 = refl

row122 : says 1133122863 ≡ codes "subq $28,80,$15"
unfolding says
row122 = refl

row123 : says 1104807221 ≡ codes "subq $14,$26,$21"
unfolding says
row123 = refl

row124 : says 1080046903 ≡ codes "subq $3,1,$23"
unfolding says
row124 = refl

row125 : says 1114834359 ≡ codes "cmpeq $19,$19,$23"
unfolding says
row125 = refl

row126 : says 1090516395 ≡ codes "cmpeq $7,255,$11"
unfolding says
row126 = refl

row127 : says 1102435775 ≡ codes "cmpeq $13,174,$31"
unfolding says
row127 = refl

row128 : says 1124079010 ≡ codes "cmpeq $24,0,$2"
unfolding says
row128 = refl

row129 : says 1087440453 ≡ codes "s8addq $6,$17,$5"
unfolding says
row129 = refl

row130 : says 1134433880 ≡ codes "s8addq $28,240,$24"
unfolding says
row130 = refl

row131 : says 1096025692 ≡ codes "s8addq $10,$20,$28"
unfolding says
row131 = refl

row132 : says 1088427610 ≡ codes "s8addq $7,0,$26"
unfolding says
row132 = refl

row133 : says 1110378424 ≡ codes "cmpule $17,$15,$24"
unfolding says
row133 = refl

row134 : says 1132476321 ≡ codes "cmpule $28,1,$1"
unfolding says
row134 = refl

row135 : says 1101019058 ≡ codes "cmpule $13,1,$18"
unfolding says
row135 = refl

row136 : says 1113601980 ≡ codes "cmpule $19,1,$28"
unfolding says
row136 = refl

row137 : says 1138768295 ≡ codes "cmplt $31,1,$7"
unfolding says
row137 = refl

row138 : says 1102186918 ≡ codes "cmplt $13,$18,$6"
unfolding says
row138 = refl

row139 : says 1075837352 ≡ codes "cmplt $0,255,$8"
unfolding says
row139 = refl

row140 : says 1130371508 ≡ codes "cmplt $27,0,$20"
unfolding says
row140 = refl

row141 : says 1133600179 ≡ codes "cmple $28,138,$19"
unfolding says
row141 = refl

row142 : says 1139215800 ≡ codes "cmple $31,$7,$24"
unfolding says
row142 = refl

row143 : says 1110654397 ≡ codes "cmple $17,153,$29"
unfolding says
row143 = refl

row144 : says 1094720940 ≡ codes "cmple $10,0,$12"
unfolding says
row144 = refl

row145 : says 1197477909 ≡ codes "and $27,0,$21"
unfolding says
row145 = refl

row146 : says 1172320257 ≡ codes "and $15,1,$1"
unfolding says
row146 = refl

row147 : says 1176506372 ≡ codes "and $17,0,$4"
unfolding says
row147 = refl

row148 : says 1174720531 ≡ codes "and $16,38,$19"
unfolding says
row148 = refl

row149 : says 1205866781 ≡ codes "bic $31,0,$29"
unfolding says
row149 = refl

row150 : says 1153437956 ≡ codes "bic $6,0,$4"
unfolding says
row150 = refl

row151 : says 1142952202 ≡ codes "bic $1,0,$10"
unfolding says
row151 = refl

row152 : says 1177747725 ≡ codes "bic $17,$19,$13"
unfolding says
row152 = refl

row153 : says 1186984964 ≡ codes "bis $21,255,$4"
unfolding says
row153 = refl

row154 : says 1149236243 ≡ codes "bis $3,255,$19"
unfolding says
row154 = refl

row155 : says 1170576409 ≡ codes "bis $14,44,$25"
unfolding says
row155 = refl

row156 : says 1185809424 ≡ codes "bis $21,$14,$16"
unfolding says
row156 = refl

row157 : says 1193292955 ≡ codes "cmoveq $25,1,$27"
unfolding says
row157 = refl

row158 : says 1166279818 ≡ codes "cmoveq $12,$4,$10"
unfolding says
row158 = refl

row159 : says 1174418570 ≡ codes "cmoveq $16,1,$10"
unfolding says
row159 = refl

row160 : says 1190331545 ≡ codes "cmoveq $23,$19,$25"
unfolding says
row160 = refl

row161 : says 1181177030 ≡ codes "cmovne $19,58,$6"
unfolding says
row161 = refl

row162 : says 1206256843 ≡ codes "cmovne $31,$6,$11"
unfolding says
row162 = refl

row163 : says 1169593567 ≡ codes "cmovne $13,180,$31"
unfolding says
row163 = refl

row164 : says 1176515787 ≡ codes "cmovne $17,1,$11"
unfolding says
row164 = refl

row165 : says 1172243740 ≡ codes "ornot $14,$31,$28"
unfolding says
row165 = refl

row166 : says 1173488925 ≡ codes "ornot $15,$18,$29"
unfolding says
row166 = refl

row167 : says 1200620821 ≡ codes "ornot $28,$16,$21"
unfolding says
row167 = refl

row168 : says 1151341824 ≡ codes "ornot $5,0,$0"
unfolding says
row168 = refl

row169 : says 1182808082 ≡ codes "xor $20,1,$18"
unfolding says
row169 = refl

row170 : says 1162414081 ≡ codes "xor $10,$9,$1"
unfolding says
row170 = refl

row171 : says 1147148304 ≡ codes "xor $3,0,$16"
unfolding says
row171 = refl

row172 : says 1180698626 ≡ codes "xor $19,$0,$2"
unfolding says
row172 = refl

row173 : says 1146161415 ≡ codes "eqv $2,$17,$7"
unfolding says
row173 = refl

row174 : says 1144981768 ≡ codes "eqv $1,$31,$8"
unfolding says
row174 = refl

row175 : says 1201666325 ≡ codes "eqv $28,255,$21"
unfolding says
row175 = refl

row176 : says 1172322563 ≡ codes "eqv $15,1,$3"
unfolding says
row176 = refl

row177 : says 1264779350 ≡ codes "mskbl $27,$3,$22"
unfolding says
row177 = refl

row178 : says 1264586833 ≡ codes "mskbl $27,0,$17"
unfolding says
row178 = refl

row179 : says 1231040585 ≡ codes "mskbl $11,1,$9"
unfolding says
row179 = refl

row180 : says 1214066757 ≡ codes "mskbl $2,233,$5"
unfolding says
row180 = refl

row181 : says 1220546754 ≡ codes "extbl $6,0,$2"
unfolding says
row181 = refl

row182 : says 1226375388 ≡ codes "extbl $8,$25,$28"
unfolding says
row182 = refl

row183 : says 1241518277 ≡ codes "extbl $16,0,$5"
unfolding says
row183 = refl

row184 : says 1214263508 ≡ codes "extbl $3,1,$20"
unfolding says
row184 = refl

row185 : says 1258750323 ≡ codes "insbl $24,$7,$19"
unfolding says
row185 = refl

row186 : says 1236291957 ≡ codes "insbl $13,130,$21"
unfolding says
row186 = refl

row187 : says 1220546940 ≡ codes "insbl $6,0,$28"
unfolding says
row187 = refl

row188 : says 1229717879 ≡ codes "insbl $10,$12,$23"
unfolding says
row188 = refl

row189 : says 1263927880 ≡ codes "mskwl $26,$22,$8"
unfolding says
row189 = refl

row190 : says 1249899098 ≡ codes "mskwl $19,255,$26"
unfolding says
row190 = refl

row191 : says 1244922432 ≡ codes "mskwl $17,$20,$0"
unfolding says
row191 = refl

row192 : says 1249907284 ≡ codes "mskwl $20,0,$20"
unfolding says
row192 = refl

row193 : says 1245704925 ≡ codes "extwl $17,255,$29"
unfolding says
row193 = refl

row194 : says 1218548424 ≡ codes "extwl $5,12,$8"
unfolding says
row194 = refl

row195 : says 1241510615 ≡ codes "extwl $15,255,$23"
unfolding says
row195 = refl

row196 : says 1249706709 ≡ codes "extwl $19,$29,$21"
unfolding says
row196 = refl

row197 : says 1227883374 ≡ codes "inswl $9,$16,$14"
unfolding says
row197 = refl

row198 : says 1231033187 ≡ codes "inswl $11,0,$3"
unfolding says
row198 = refl

row199 : says 1221395312 ≡ codes "inswl $6,$13,$16"
unfolding says
row199 = refl

row200 : says 1237316475 ≡ codes "inswl $13,255,$27"
unfolding says
row200 = refl

row201 : says 1246626892 ≡ codes "mskll $18,$14,$12"
unfolding says
row201 = refl

row202 : says 1264596055 ≡ codes "mskll $27,1,$23"
unfolding says
row202 = refl

row203 : says 1216353370 ≡ codes "mskll $4,0,$26"
unfolding says
row203 = refl

row204 : says 1273234521 ≡ codes "mskll $31,$4,$25"
unfolding says
row204 = refl

row205 : says 1255998656 ≡ codes "extll $22,$29,$0"
unfolding says
row205 = refl

row206 : says 1224733908 ≡ codes "extll $7,255,$20"
unfolding says
row206 = refl

row207 : says 1262499036 ≡ codes "extll $26,1,$28"
unfolding says
row207 = refl

row208 : says 1224742096 ≡ codes "extll $8,0,$16"
unfolding says
row208 = refl

row209 : says 1213662586 ≡ codes "insll $2,$23,$26"
unfolding says
row209 = refl

row210 : says 1220539744 ≡ codes "insll $5,255,$0"
unfolding says
row210 = refl

row211 : says 1245705598 ≡ codes "insll $17,255,$30"
unfolding says
row211 = refl

row212 : says 1268790654 ≡ codes "insll $29,1,$30"
unfolding says
row212 = refl

row213 : says 1228928523 ≡ codes "zap $9,255,$11"
unfolding says
row213 = refl

row214 : says 1226831386 ≡ codes "zap $8,255,$26"
unfolding says
row214 = refl

row215 : says 1245382165 ≡ codes "zap $17,$27,$21"
unfolding says
row215 = refl

row216 : says 1274611227 ≡ codes "zap $31,$25,$27"
unfolding says
row216 = refl

row217 : says 1235813934 ≡ codes "zapnot $13,$9,$14"
unfolding says
row217 = refl

row218 : says 1241519678 ≡ codes "zapnot $16,0,$30"
unfolding says
row218 = refl

row219 : says 1231029797 ≡ codes "zapnot $11,$0,$5"
unfolding says
row219 = refl

row220 : says 1264588323 ≡ codes "zapnot $27,0,$3"
unfolding says
row220 = refl

row221 : says 1223689809 ≡ codes "mskql $7,$16,$17"
unfolding says
row221 = refl

row222 : says 1235482200 ≡ codes "mskql $13,31,$24"
unfolding says
row222 = refl

row223 : says 1274611271 ≡ codes "mskql $31,$25,$7"
unfolding says
row223 = refl

row224 : says 1228928588 ≡ codes "mskql $9,255,$12"
unfolding says
row224 = refl

row225 : says 1247803021 ≡ codes "srl $18,255,$13"
unfolding says
row225 = refl

row226 : says 1220544150 ≡ codes "srl $6,$0,$22"
unfolding says
row226 = refl

row227 : says 1268774534 ≡ codes "srl $28,255,$6"
unfolding says
row227 = refl

row228 : says 1241122441 ≡ codes "srl $15,$26,$9"
unfolding says
row228 = refl

row229 : says 1264473801 ≡ codes "extql $26,242,$9"
unfolding says
row229 = refl

row230 : says 1245578963 ≡ codes "extql $17,$30,$19"
unfolding says
row230 = refl

row231 : says 1274480350 ≡ codes "extql $31,$23,$30"
unfolding says
row231 = refl

row232 : says 1232864969 ≡ codes "extql $11,$28,$9"
unfolding says
row232 = refl

row233 : says 1236535103 ≡ codes "sll $13,$20,$31"
unfolding says
row233 = refl

row234 : says 1225262896 ≡ codes "sll $8,$8,$16"
unfolding says
row234 = refl

row235 : says 1231042350 ≡ codes "sll $11,1,$14"
unfolding says
row235 = refl

row236 : says 1264588576 ≡ codes "sll $27,0,$0"
unfolding says
row236 = refl

row237 : says 1239414638 ≡ codes "insql $14,255,$14"
unfolding says
row237 = refl

row238 : says 1258358631 ≡ codes "insql $24,$1,$7"
unfolding says
row238 = refl

row239 : says 1222645609 ≡ codes "insql $7,0,$9"
unfolding says
row239 = refl

row240 : says 1216677734 ≡ codes "insql $4,$5,$6"
unfolding says
row240 = refl

row241 : says 1243809687 ≡ codes "sra $17,$3,$23"
unfolding says
row241 = refl

row242 : says 1262483343 ≡ codes "sra $25,255,$15"
unfolding says
row242 = refl

row243 : says 1207973767 ≡ codes "sra $0,1,$7"
unfolding says
row243 = refl

row244 : says 1261574046 ≡ codes "sra $25,144,$30"
unfolding says
row244 = refl

row245 : says 1248725587 ≡ codes "mskwh $19,$14,$19"
unfolding says
row245 = refl

row246 : says 1223096911 ≡ codes "mskwh $7,55,$15"
unfolding says
row246 = refl

row247 : says 1212152401 ≡ codes "mskwh $1,255,$17"
unfolding says
row247 = refl

row248 : says 1226377798 ≡ codes "mskwh $8,$25,$6"
unfolding says
row248 = refl

row249 : says 1256262387 ≡ codes "inswh $23,$1,$19"
unfolding says
row249 = refl

row250 : says 1218444013 ≡ codes "inswh $4,255,$13"
unfolding says
row250 = refl

row251 : says 1247492841 ≡ codes "inswh $18,217,$9"
unfolding says
row251 = refl

row252 : says 1260849897 ≡ codes "inswh $25,$7,$9"
unfolding says
row252 = refl

row253 : says 1207966552 ≡ codes "extwh $0,0,$24"
unfolding says
row253 = refl

row254 : says 1212152667 ≡ codes "extwh $1,255,$27"
unfolding says
row254 = refl

row255 : says 1262291779 ≡ codes "extwh $25,$29,$3"
unfolding says
row255 = refl

row256 : says 1207974727 ≡ codes "extwh $0,1,$7"
unfolding says
row256 = refl

row257 : says 1245056094 ≡ codes "msklh $17,$22,$30"
unfolding says
row257 = refl

row258 : says 1220549706 ≡ codes "msklh $6,0,$10"
unfolding says
row258 = refl

row259 : says 1264589904 ≡ codes "msklh $27,0,$16"
unfolding says
row259 = refl

row260 : says 1264581718 ≡ codes "msklh $26,255,$22"
unfolding says
row260 = refl

row261 : says 1240009955 ≡ codes "inslh $15,$9,$3"
unfolding says
row261 = refl

row262 : says 1272978663 ≡ codes "inslh $31,0,$7"
unfolding says
row262 = refl

row263 : says 1236798699 ≡ codes "inslh $13,$24,$11"
unfolding says
row263 = refl

row264 : says 1239432437 ≡ codes "inslh $15,1,$21"
unfolding says
row264 = refl

row265 : says 1270889823 ≡ codes "extlh $30,1,$31"
unfolding says
row265 = refl

row266 : says 1267883335 ≡ codes "extlh $28,146,$7"
unfolding says
row266 = refl

row267 : says 1225329984 ≡ codes "extlh $8,$9,$0"
unfolding says
row267 = refl

row268 : says 1211022667 ≡ codes "extlh $1,117,$11"
unfolding says
row268 = refl

row269 : says 1227427398 ≡ codes "mskqh $9,$9,$6"
unfolding says
row269 = refl

row270 : says 1270419022 ≡ codes "mskqh $29,$25,$14"
unfolding says
row270 = refl

row271 : says 1239432778 ≡ codes "mskqh $15,1,$10"
unfolding says
row271 = refl

row272 : says 1239682634 ≡ codes "mskqh $15,$4,$10"
unfolding says
row272 = refl

row273 : says 1236995823 ≡ codes "insqh $13,$27,$15"
unfolding says
row273 = refl

row274 : says 1217335033 ≡ codes "insqh $4,$15,$25"
unfolding says
row274 = refl

row275 : says 1214258917 ≡ codes "insqh $3,0,$5"
unfolding says
row275 = refl

row276 : says 1214250720 ≡ codes "insqh $2,255,$0"
unfolding says
row276 = refl

row277 : says 1243627338 ≡ codes "extqh $17,1,$10"
unfolding says
row277 = refl

row278 : says 1268145994 ≡ codes "extqh $28,178,$10"
unfolding says
row278 = refl

row279 : says 1233141585 ≡ codes "extqh $12,1,$17"
unfolding says
row279 = refl

row280 : says 1245708101 ≡ codes "extqh $17,255,$5"
unfolding says
row280 = refl

row281 : says 1296035856 ≡ codes "mull $9,255,$16"
unfolding says
row281 = refl

row282 : says 1310732288 ≡ codes "mull $17,1,$0"
unfolding says
row282 = refl

row283 : says 1304440836 ≡ codes "mull $14,1,$4"
unfolding says
row283 = refl

row284 : says 1307050013 ≡ codes "mull $15,$8,$29"
unfolding says
row284 = refl

row285 : says 1283519491 ≡ codes "mulq $4,7,$3"
unfolding says
row285 = refl

row286 : says 1330119688 ≡ codes "mulq $26,$8,$8"
unfolding says
row286 = refl

row287 : says 1325822994 ≡ codes "mulq $24,51,$18"
unfolding says
row287 = refl

row288 : says 1298150419 ≡ codes "mulq $11,1,$19"
unfolding says
row288 = refl

row289 : says 1341261317 ≡ codes "umulh $31,$18,$5"
unfolding says
row289 = refl

row290 : says 1335891474 ≡ codes "umulh $29,0,$18"
unfolding says
row290 = refl

row291 : says 1334838787 ≡ codes "umulh $28,$16,$3"
unfolding says
row291 = refl

row292 : says 1292240391 ≡ codes "umulh $8,$6,$7"
unfolding says
row292 = refl

row293 : says 1944911897 ≡ codes "sextb $13,$25"
unfolding says
row293 = refl

row294 : says 1944584208 ≡ codes "sextb $8,$16"
unfolding says
row294 = refl

row295 : says 1944846360 ≡ codes "sextb $12,$24"
unfolding says
row295 = refl

row296 : says 1945174018 ≡ codes "sextb $17,$2"
unfolding says
row296 = refl

row297 : says 1945763889 ≡ codes "sextw $26,$17"
unfolding says
row297 = refl

row298 : says 1945174079 ≡ codes "sextw $17,$31"
unfolding says
row298 = refl

row299 : says 1944125501 ≡ codes "sextw $1,$29"
unfolding says
row299 = refl

row300 : says 1944911929 ≡ codes "sextw $13,$25"
unfolding says
row300 = refl

row301 : says 1757675520 ≡ codes "jmp $6,($4),0"
unfolding says
row301 = refl

row302 : says 1750794240 ≡ codes "jmp $2,($27),0"
unfolding says
row302 = refl

row303 : says 1804337152 ≡ codes "jmp $28,($12),0"
unfolding says
row303 = refl

row304 : says 1768685568 ≡ codes "jmp $11,($12),0"
unfolding says
row304 = refl

row305 : says 128 ≡ codes "call_pal 0x80"
unfolding says
row305 = refl

row306 : says 129 ≡ codes "call_pal 0x81"
unfolding says
row306 = refl

row307 : says 130 ≡ codes "call_pal 0x82"
unfolding says
row307 = refl

row308 : says 131 ≡ codes "call_pal 0x83"
unfolding says
row308 = refl

row309 : says 132 ≡ codes "call_pal 0x84"
unfolding says
row309 = refl

row310 : says 133 ≡ codes "call_pal 0x85"
unfolding says
row310 = refl

row311 : says 134 ≡ codes "call_pal 0x86"
unfolding says
row311 = refl

row312 : says 0 ≡ codes ".long 0x0"
unfolding says
row312 = refl

row313 : says 127 ≡ codes ".long 0x7F"
unfolding says
row313 = refl

row314 : says 135 ≡ codes ".long 0x87"
unfolding says
row314 = refl

row315 : says 67108863 ≡ codes ".long 0x3FFFFFF"
unfolding says
row315 = refl

row316 : says 1889533952 ≡ codes ".long 0x70A00000"
unfolding says
row316 = refl

-- Command lines that are written out, and what they spell.
use Rattle.std.proofs.Common.{◌≡◌, refl, codes, [], ◌∷◌, Some, None}
use Rattle.std.specs.Str.{chars}
use Rattle.command_words.specs.Parts.{parts_of}
use Rattle.command_words.specs.declared.commands.Keeping.TheVariants.{History, Nothing}
use Rattle.command_words.specs.declared.commands.Target.TheVariants.{Original, ByteWord}
use Rattle.command_words.specs.Commands.{forms, list, live, replay, run, spells, translate}

pub run_alone : spells forms (codes "run" ∷ codes "a" ∷ []) ≡ Some (run (codes "a") (record { limits = record { budget = 100000000; keeping = History; events = 4194304; miss = 0 }; ranges = []; target = Original; order = None }))
unfolding parts_of chars
run_alone = refl

pub options_around : spells forms (codes "run" ∷ codes "--miss=2" ∷ codes "a" ∷ codes "--budget" ∷ codes "+07" ∷ codes "--interpret" ∷ codes "31:200-2fF" ∷ []) ≡ Some (run (codes "a") (record { limits = record { budget = 7; keeping = History; events = 4194304; miss = 2 }; ranges = record { thread = 31; first = 512; last = 767 } ∷ []; target = Original; order = None }))
unfolding parts_of chars
options_around = refl

pub one_hyphen : spells forms (codes "list" ∷ codes "-" ∷ []) ≡ Some (list (codes "-"))
unfolding parts_of chars
one_hyphen = refl

pub behind_hyphens : spells forms (codes "translate" ∷ codes "a" ∷ codes "--" ∷ codes "--b" ∷ []) ≡ Some (translate (codes "a") (codes "--b") Original None)
unfolding parts_of chars
behind_hyphens = refl

pub miss_of_one : spells forms (codes "run" ∷ codes "x" ∷ codes "--miss" ∷ codes "1" ∷ []) ≡ None
unfolding parts_of chars
miss_of_one = refl

pub twice : spells forms (codes "run" ∷ codes "x" ∷ codes "--miss=2" ∷ codes "--miss=2" ∷ []) ≡ None
unfolding parts_of chars
twice = refl

pub not_rising : spells forms (codes "run" ∷ codes "x" ∷ codes "--interpret" ∷ codes "0:201-200" ∷ []) ≡ None
unfolding parts_of chars
not_rising = refl

pub help : spells forms (codes "run" ∷ codes "--help" ∷ []) ≡ None
unfolding parts_of chars
help = refl

pub for_byte_word : spells forms (codes "run" ∷ codes "x" ∷ codes "--target" ∷ codes "byteword" ∷ []) ≡ Some (run (codes "x") (record { limits = record { budget = 100000000; keeping = History; events = 4194304; miss = 0 }; ranges = []; target = ByteWord; order = None }))
unfolding parts_of chars
for_byte_word = refl

pub translated_for_byte_word : spells forms (codes "translate" ∷ codes "--target=byteword" ∷ codes "a" ∷ codes "b" ∷ []) ≡ Some (translate (codes "a") (codes "b") ByteWord None)
unfolding parts_of chars
translated_for_byte_word = refl

pub target_twice : spells forms (codes "run" ∷ codes "x" ∷ codes "--target=original" ∷ codes "--target=original" ∷ []) ≡ None
unfolding parts_of chars
target_twice = refl

pub target_misspelt : spells forms (codes "run" ∷ codes "x" ∷ codes "--target" ∷ codes "Byteword" ∷ []) ≡ None
unfolding parts_of chars
target_misspelt = refl

pub target_empty : spells forms (codes "translate" ∷ codes "a" ∷ codes "b" ∷ codes "--target=" ∷ []) ≡ None
unfolding parts_of chars
target_empty = refl

pub list_without_target : spells forms (codes "list" ∷ codes "x" ∷ codes "--target" ∷ codes "original" ∷ []) ≡ None
unfolding parts_of chars
list_without_target = refl

pub with_order : spells forms (codes "run" ∷ codes "x" ∷ codes "--order" ∷ codes "o" ∷ []) ≡ Some (run (codes "x") (record { limits = record { budget = 100000000; keeping = History; events = 4194304; miss = 0 }; ranges = []; target = Original; order = Some (codes "o") }))
unfolding parts_of chars
with_order = refl

pub empty_order : spells forms (codes "run" ∷ codes "--order=" ∷ codes "x" ∷ []) ≡ Some (run (codes "x") (record { limits = record { budget = 100000000; keeping = History; events = 4194304; miss = 0 }; ranges = []; target = Original; order = Some [] }))
unfolding parts_of chars
empty_order = refl

pub order_twice : spells forms (codes "run" ∷ codes "x" ∷ codes "--order=o" ∷ codes "--order=o" ∷ []) ≡ None
unfolding parts_of chars
order_twice = refl

pub order_of_another_command : spells forms (codes "list" ∷ codes "x" ∷ codes "--order=o" ∷ []) ≡ None
unfolding parts_of chars
order_of_another_command = refl

pub replayed : spells forms (codes "replay" ∷ codes "a" ∷ codes "o" ∷ []) ≡ Some (replay (codes "a") (codes "o") None)
unfolding parts_of chars
replayed = refl

pub replayed_without_file : spells forms (codes "replay" ∷ codes "a" ∷ []) ≡ None
unfolding parts_of chars
replayed_without_file = refl

pub replayed_with_three_names : spells forms (codes "replay" ∷ codes "a" ∷ codes "o" ∷ codes "b" ∷ []) ≡ None
unfolding parts_of chars
replayed_with_three_names = refl

pub replayed_with_an_option : spells forms (codes "replay" ∷ codes "a" ∷ codes "o" ∷ codes "--order=o" ∷ []) ≡ None
unfolding parts_of chars
replayed_with_an_option = refl

pub with_hints : spells forms (codes "translate" ∷ codes "a" ∷ codes "--hints" ∷ codes "h" ∷ codes "b" ∷ []) ≡ Some (translate (codes "a") (codes "b") Original (Some (codes "h")))
unfolding parts_of chars
with_hints = refl

pub hints_twice : spells forms (codes "translate" ∷ codes "a" ∷ codes "b" ∷ codes "--hints=h" ∷ codes "--hints=h" ∷ []) ≡ None
unfolding parts_of chars
hints_twice = refl

pub run_without_hints : spells forms (codes "run" ∷ codes "x" ∷ codes "--hints" ∷ codes "h" ∷ []) ≡ None
unfolding parts_of chars
run_without_hints = refl

pub replayed_for_hints : spells forms (codes "replay" ∷ codes "a" ∷ codes "--hints" ∷ codes "h" ∷ codes "o" ∷ []) ≡ Some (replay (codes "a") (codes "o") (Some (codes "h")))
unfolding parts_of chars
replayed_for_hints = refl

pub replayed_for_empty_hints : spells forms (codes "replay" ∷ codes "--hints=" ∷ codes "a" ∷ codes "a" ∷ []) ≡ Some (replay (codes "a") (codes "a") (Some []))
unfolding parts_of chars
replayed_for_empty_hints = refl

pub replayed_for_hints_twice : spells forms (codes "replay" ∷ codes "a" ∷ codes "o" ∷ codes "--hints=h" ∷ codes "--hints=h" ∷ []) ≡ None
unfolding parts_of chars
replayed_for_hints_twice = refl

pub unkept : spells forms (codes "run" ∷ codes "x" ∷ codes "--unkept" ∷ []) ≡ Some (run (codes "x") (record { limits = record { budget = 100000000; keeping = Nothing; events = 4194304; miss = 0 }; ranges = []; target = Original; order = None }))
unfolding parts_of chars
unkept = refl

pub unkept_before_the_name : spells forms (codes "run" ∷ codes "--unkept" ∷ codes "x" ∷ codes "--events" ∷ codes "3" ∷ []) ≡ Some (run (codes "x") (record { limits = record { budget = 100000000; keeping = Nothing; events = 3; miss = 0 }; ranges = []; target = Original; order = None }))
unfolding parts_of chars
unkept_before_the_name = refl

pub unkept_with_a_value : spells forms (codes "run" ∷ codes "x" ∷ codes "--unkept=1" ∷ []) ≡ None
unfolding parts_of chars
unkept_with_a_value = refl

pub unkept_with_an_empty_value : spells forms (codes "run" ∷ codes "x" ∷ codes "--unkept=" ∷ []) ≡ None
unfolding parts_of chars
unkept_with_an_empty_value = refl

pub unkept_with_a_name_behind : spells forms (codes "run" ∷ codes "--unkept" ∷ codes "x" ∷ codes "y" ∷ []) ≡ None
unfolding parts_of chars
unkept_with_a_name_behind = refl

pub unkept_as_a_value : spells forms (codes "run" ∷ codes "x" ∷ codes "--order" ∷ codes "--unkept" ∷ []) ≡ None
unfolding parts_of chars
unkept_as_a_value = refl

pub unkept_twice : spells forms (codes "run" ∷ codes "x" ∷ codes "--unkept" ∷ codes "--unkept" ∷ []) ≡ None
unfolding parts_of chars
unkept_twice = refl

pub unkept_with_order : spells forms (codes "run" ∷ codes "x" ∷ codes "--unkept" ∷ codes "--order" ∷ codes "o" ∷ []) ≡ None
unfolding parts_of chars
unkept_with_order = refl

pub unkept_of_another_command : spells forms (codes "translate" ∷ codes "a" ∷ codes "b" ∷ codes "--unkept" ∷ []) ≡ None
unfolding parts_of chars
unkept_of_another_command = refl

pub replayed_unkept : spells forms (codes "replay" ∷ codes "a" ∷ codes "o" ∷ codes "--unkept" ∷ []) ≡ None
unfolding parts_of chars
replayed_unkept = refl

pub talked_with : spells forms (codes "run" ∷ codes "x" ∷ codes "--live" ∷ []) ≡ Some (live (codes "x") (record { budget = 100000000; miss = 0; ranges = []; target = Original; progress = None }))
unfolding parts_of chars
talked_with = refl

pub talked_with_by_options : spells forms (codes "run" ∷ codes "--live" ∷ codes "--miss=2" ∷ codes "x" ∷ codes "--budget" ∷ codes "1000000000000" ∷ codes "--target=byteword" ∷ codes "--interpret=0:200-2ff" ∷ []) ≡ Some (live (codes "x") (record { budget = 1000000000000; miss = 2; ranges = record { thread = 0; first = 512; last = 767 } ∷ []; target = ByteWord; progress = None }))
unfolding parts_of chars
talked_with_by_options = refl

pub live_twice : spells forms (codes "run" ∷ codes "x" ∷ codes "--live" ∷ codes "--live" ∷ []) ≡ None
unfolding parts_of chars
live_twice = refl

pub live_with_a_value : spells forms (codes "run" ∷ codes "x" ∷ codes "--live=" ∷ []) ≡ None
unfolding parts_of chars
live_with_a_value = refl

pub live_unkept : spells forms (codes "run" ∷ codes "x" ∷ codes "--live" ∷ codes "--unkept" ∷ []) ≡ None
unfolding parts_of chars
live_unkept = refl

pub live_with_order : spells forms (codes "run" ∷ codes "x" ∷ codes "--order=o" ∷ codes "--live" ∷ []) ≡ None
unfolding parts_of chars
live_with_order = refl

pub live_with_events : spells forms (codes "run" ∷ codes "--live" ∷ codes "x" ∷ codes "--events" ∷ codes "4194304" ∷ []) ≡ None
unfolding parts_of chars
live_with_events = refl

pub live_with_too_many_steps : spells forms (codes "run" ∷ codes "--live" ∷ codes "x" ∷ codes "--budget" ∷ codes "1000000000001" ∷ []) ≡ None
unfolding parts_of chars
live_with_too_many_steps = refl

pub live_of_another_command : spells forms (codes "list" ∷ codes "x" ∷ codes "--live" ∷ []) ≡ None
unfolding parts_of chars
live_of_another_command = refl

pub with_progress : spells forms (codes "run" ∷ codes "x" ∷ codes "--progress" ∷ codes "1000000" ∷ codes "--live" ∷ []) ≡ Some (live (codes "x") (record { budget = 100000000; miss = 0; ranges = []; target = Original; progress = Some 1000000 }))
unfolding parts_of chars
with_progress = refl

pub with_most_progress : spells forms (codes "run" ∷ codes "--live" ∷ codes "--progress=1000000000000" ∷ codes "x" ∷ []) ≡ Some (live (codes "x") (record { budget = 100000000; miss = 0; ranges = []; target = Original; progress = Some 1000000000000 }))
unfolding parts_of chars
with_most_progress = refl

pub progress_too_often : spells forms (codes "run" ∷ codes "x" ∷ codes "--live" ∷ codes "--progress" ∷ codes "999999" ∷ []) ≡ None
unfolding parts_of chars
progress_too_often = refl

pub progress_too_seldom : spells forms (codes "run" ∷ codes "x" ∷ codes "--live" ∷ codes "--progress" ∷ codes "1000000000001" ∷ []) ≡ None
unfolding parts_of chars
progress_too_seldom = refl

pub progress_twice : spells forms (codes "run" ∷ codes "x" ∷ codes "--live" ∷ codes "--progress=1000000" ∷ codes "--progress=1000000" ∷ []) ≡ None
unfolding parts_of chars
progress_twice = refl

pub progress_without_live : spells forms (codes "run" ∷ codes "x" ∷ codes "--progress" ∷ codes "1000000" ∷ []) ≡ None
unfolding parts_of chars
progress_without_live = refl

pub progress_of_another_command : spells forms (codes "list" ∷ codes "x" ∷ codes "--progress=1000000" ∷ []) ≡ None
unfolding parts_of chars
progress_of_another_command = refl

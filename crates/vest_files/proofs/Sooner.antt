-- What is said of a desk is said from an earlier time on, since which no file changed.
use Rattle.std.proofs.Common.{◌≡◌, ℕ, ◌≤◌, List, Option, Some, None, subst, ◌∙◌, arith, inl, inr}
use Rattle.std.specs.Prelude.{IfSome}
use Rattle.std.proofs.lemmas.Bool.Decides.{nat_tests}
use Rattle.vt_outside.specs.Causes.{Rose}
use Rattle.vt_outside.specs.Desk.{BothTold, DeskMeaning, Files, IsLonger, Puts, PutsPart}
use Rattle.vest_stops.specs.Files.{SameFiles}
use Rattle.vest_stops.specs.declared.status.Done.{Done}
use Rattle.vest_stops.specs.declared.status.Done.TheVariants as done
use Rattle.vest_stops.specs.declared.stop.Stop.{Stop}
use Rattle.vest_stops.specs.declared.stop.Stop.TheVariants.{Absent, Refused, ReadFault, TooLong, WantOfMemory}
use Rattle.image_meaning.specs.declared.target.Target.{Target}
use Rattle.vest_files.specs.Limits.{FILE_LIMIT}
use Rattle.vest_files.specs.Stages.{IsFile, StopsAtFile}
use Rattle.vest_files.specs.Translate.{IsHinted, IsTranslatedFile, StopsAtHinted, StopsAtTranslating, Writes}

rose_sooner : (first old new : ℕ) → first ≤ old → Rose old new → Rose first new
rose_sooner first old new le rose = grind (arith, nat_tests)

module _ (first old : DeskMeaning) (same : SameFiles first old) where
  pub file_sooner : (stop : Stop) (name : List ℕ) (new : DeskMeaning) → StopsAtFile stop name old new → StopsAtFile stop name first new
  file_sooner Absent name new h = subst (λ (o : Option Files). IfSome o (λ f. f name ≡ None)) same.files h
  file_sooner (Refused refusal) name new h = h
  file_sooner ReadFault name new h = rose_sooner first.read_faults old.read_faults new.read_faults same.read_faults h
  file_sooner TooLong name new h = subst (λ (o : Option Files). IfSome o (λ f. IsLonger (f name) FILE_LIMIT)) same.files h
  file_sooner WantOfMemory name new h = tt

  pub hinted_sooner : (hinted : Option (List ℕ)) (hints : List ℕ) → IsHinted old.files hinted hints → IsHinted first.files hinted hints
  hinted_sooner hinted hints h = subst (λ (o : Option Files). IsHinted o hinted hints) same.files h

  is_file_sooner : (name bytes : List ℕ) → IsFile old.files name bytes → IsFile first.files name bytes
  is_file_sooner name bytes h = subst (λ (o : Option Files). IsFile o name bytes) same.files h

  pub stops_sooner : (stop : Stop) (hinted : Option (List ℕ)) (new : DeskMeaning) → StopsAtHinted stop hinted old new → StopsAtHinted stop hinted first new
  stops_sooner stop None new h = h
  stops_sooner stop (Some name) new (inl h) = inl (file_sooner stop name new h)
  stops_sooner stop (Some name) new (inr (bytes, file, h)) = inr (bytes, is_file_sooner name bytes file, h)

  pub translating_sooner : (stop : Stop) (bytes : List ℕ) (hinted : Option (List ℕ)) (new : DeskMeaning) → StopsAtTranslating stop bytes hinted old new → StopsAtTranslating stop bytes hinted first new
  translating_sooner stop bytes hinted new (inl h) = inl h
  translating_sooner stop bytes hinted new (inr (image, meant, inl h)) = inr (image, meant, inl (stops_sooner stop hinted new h))
  translating_sooner stop bytes hinted new (inr (image, meant, inr (hints, told, h))) = inr (image, meant, inr (hints, hinted_sooner hinted hints told, h))

  pub made_sooner : (target : Target) (bytes : List ℕ) (hinted : Option (List ℕ)) (file : List ℕ) → IsTranslatedFile target bytes hinted old.files file → IsTranslatedFile target bytes hinted first.files file
  made_sooner target bytes hinted file h = subst (λ (o : Option Files). IsTranslatedFile target bytes hinted o file) same.files h

  pub writes_sooner : (result : Done) (name bytes : List ℕ) (new : DeskMeaning) → Writes result name bytes old new → Writes result name bytes first new
  writes_sooner done.Ok name bytes new h = subst (λ (o : Option Files). BothTold o new.files (λ f g. Puts f g name bytes)) same.files h
  writes_sooner done.WriteFault name bytes new h =
      (subst (λ n. Rose n new.write_faults) same.write_faults h.0, subst (λ (o : Option Files). BothTold o new.files (λ f g. PutsPart f g name bytes)) same.files h.1)
  writes_sooner done.Exception name bytes new h = absurd h
  writes_sooner done.Spent name bytes new h = absurd h
  writes_sooner done.ReadFault name bytes new h = absurd h

pub same_both : (a b c : DeskMeaning) → SameFiles a b → SameFiles b c → SameFiles a c
same_both a b c ab bc = record { files = bc.files ∙ ab.files; write_faults = bc.write_faults ∙ ab.write_faults; read_faults = let x = ab.read_faults in let y = bc.read_faults in omega arith }

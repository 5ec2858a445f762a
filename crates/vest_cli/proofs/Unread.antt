-- A call whose words could not be read for want of memory.
use Rattle.std.proofs.Common.{◌≡◌, None, arith, refl, sym, subst, inr}
use Rattle.vt_outside.specs.Desk.{DeskMeaning}
use Rattle.vt_outside.specs.Sink.{SinkMeaning}
use Rattle.vt_outside.specs.Source.{SourceMeaning}
use Rattle.vest_stops.specs.Line.{line_of}
use Rattle.vest_stops.specs.declared.status.Status.{Status}
use Rattle.vest_stops.specs.declared.status.Status.TheVariants as status
use Rattle.vest_stops.specs.declared.stop.Stop.TheVariants.{WantOfMemory}
use Rattle.vest_stops.specs.Decided.{Decision}
use Rattle.vest_runs.specs.Kept.{KeptValue, nothing_kept}
use Rattle.vest_cli.specs.Decided.{IsOrFault}
use Rattle.vest_cli.specs.Lent.{lent}
use Rattle.vest_cli.specs.Program.{IsCalled}
use Rattle.vest_ends.specs.Says.{Says}
use Rattle.vest_cli.specs.Vest.{Ends, stopped}
use Rattle.vest_cli.proofs.Completing.{complete}

module _ (result : Status) (desk : DeskMeaning) (input : SourceMeaning) (out report report' : SinkMeaning) (kept : KeptValue)
    (is : result ≡ status.WantOfMemory) (nothing : kept ≡ nothing_kept) (says : Says (line_of WantOfMemory) report report') where
  ends : Ends None result (lent desk input out report) (lent desk input out report') kept
  ends = stopped WantOfMemory is (record { same_desk = refl; same_input = refl }) (record { desk = record { files = refl; write_faults = refl; read_faults = omega arith }; out = refl; kept_nothing = nothing; said = says })

  is_free : (d : Decision) → IsOrFault None result d
  is_free d = subst (λ (s : Status). IsOrFault None s d) (sym is) tt

  pub unread_words : IsCalled None result (lent desk input out report) (lent desk input out report') kept
  unread_words = record {
    meaning = ends;
    usage = λ e. refl;
    no_command = λ e. inr is;
    decided = λ d e. is_free d;
    complete = λ d e none. complete (lent desk input out report) (lent desk input out report') kept none None result d ends (is_free d);
  }

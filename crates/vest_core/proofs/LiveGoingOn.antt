-- A live world whose set-up goes on: a byte is given, or its output is sent.
use Rattle.std.proofs.Common.{◌≡◌, ℕ, ◌<◌, true, List, [], ◌∷◌, ◌++◌, length, refl, sym, ap, ◌∙◌, subst, arith}
use Rattle.std.specs.Prelude.{reverse, take}
use Rattle.std.specs.List.{AllByRecursion}
use Rattle.std.proofs.lemmas.Bool.{eqb-true}
use Rattle.std.proofs.lemmas.List.{length-append, take-append-drop}
use Rattle.std.proofs.lemmas.List.Elements.{All-push}
use Rattle.memory_core.specs.Contents.{output_of}
use Rattle.memory_core.specs.Live.{GoesOn, LiveContents, all_sent, given, unsent, wants_input}
use Rattle.memory_core.specs.Order.{gets}
use Rattle.memory_core.specs.declared.entry.Entry.{Entry}
use Rattle.legal_history.specs.Law.{IsRun}
use Rattle.system_model.specs.Laws.{LegalGoesOn}
use Rattle.system_model.specs.Legal.{IsLegal}
use Rattle.system_model.specs.Processors.{Ended, Mode, Processor}
use Rattle.system_model.specs.Settings.{Setting}
use Rattle.vax_driven.specs.declared.thread.End.TheVariants as ends
use Rattle.tie_switch.specs.Live.{is_spent}
use Rattle.tie_switch.proofs.Unspent.{spent_is}
use Rattle.vest_core.specs.LiveWorlds.{IsAskedFor, IsLegalLive, IsMannedLive, LiveWorldValue, NextAsks, all, next, sent_of}

abbrev pub with_memory : LiveWorldValue → LiveContents → LiveWorldValue
with_memory w memory = record w { memory = memory }

-- ---- a longer set-up
module _ (law : LegalGoesOn) (setting : Setting) (old : LiveWorldValue) (manned : IsMannedLive old) (memory : LiveContents) (history : memory.contents.history ≡ old.memory.contents.history)
    (goes : GoesOn (reverse old.memory.contents.history) old.memory.contents.set_up memory.contents.set_up) where
  has_no_step : (legal : IsLegalLive setting old) → AllByRecursion (λ (p : Processor). p.mode ≡ Ended ends.Spent → p.steps ≡ old.budget) (legal.processor ∷ [])
  has_no_step legal =
      let stands = legal.stands in (
        λ is. ap (λ (p : Processor). p.steps) stands.same
            ∙ manned.spent (sym (spent_is setting.meaning.pages old.processor legal.processor stands) ∙ ap (λ (mode : Mode). is_spent mode) is),
        tt,
      )

  pub legal_goes : IsLegalLive setting old → IsLegalLive setting (with_memory old memory)
  legal_goes legal = record {
    processor = legal.processor;
    stands = legal.stands;
    legal =
        subst (λ (h : List Entry). IsLegal setting memory.contents.set_up old.budget (reverse h) (legal.processor ∷ [])) (sym history)
        (law setting old.memory.contents.set_up memory.contents.set_up old.budget (reverse old.memory.contents.history) (legal.processor ∷ []) goes (has_no_step legal) legal.legal);
  }

  pub asks_goes : NextAsks setting old → NextAsks setting (with_memory old memory)
  unfolding legal_goes
  asks_goes asks = record { legal = legal_goes asks.legal; asks = asks.asks }

  asked_same : gets (reverse memory.contents.history) ≡ gets (reverse old.memory.contents.history)
  asked_same = ap (λ (h : List Entry). gets (reverse h)) history

  -- with the same input
  pub asked_goes : memory.contents.set_up.input ≡ old.memory.contents.set_up.input → IsAskedFor setting old → IsAskedFor setting (with_memory old memory)
  asked_goes input (all few) = all (omega (arith, few, ap length input, asked_same))
  asked_goes input (next count asks) = next (omega (arith, count, ap length input, asked_same)) (asks_goes asks)

  -- with a byte more
  pub byte_asked : (byte : ℕ) → memory.contents.set_up.input ≡ old.memory.contents.set_up.input ++ byte ∷ [] → wants_input old.memory.contents ≡ true → NextAsks setting old
      → IsAskedFor setting (with_memory old memory)
  byte_asked byte input wants asks =
      let read = eqb-true (gets (reverse old.memory.contents.history)) (length old.memory.contents.set_up.input) wants in
      next (omega (arith, read, asked_same, ap length input, length-append old.memory.contents.set_up.input (byte ∷ []))) (asks_goes asks)

-- ---- its numbers stay in range
pub given_run : (byte : ℕ) (m : LiveContents) → byte < 256 → IsRun m.contents.set_up → IsRun (given byte m.contents).set_up
given_run byte m small run = record {
  bytes = record { image = (run.bytes).image; input = All-push (λ b. b < 256) m.contents.set_up.input byte (run.bytes).input small };
  starts = run.starts;
}

pub sent_run : (m : LiveContents) → IsRun m.contents.set_up → IsRun (all_sent m).contents.set_up
sent_run m run = record { bytes = record { image = (run.bytes).image; input = (run.bytes).input }; starts = run.starts }

-- ---- what was sent
take_all : (xs : List ℕ) → take (length xs) xs ≡ xs
take_all [] = refl
take_all (x ∷ xs) = ap (λ (ys : List ℕ). x ∷ ys) (take_all xs)

pub sent_on : (m : LiveContents) → sent_of (all_sent m) ≡ sent_of m ++ unsent m
sent_on m = take_all (output_of m.contents.history) ∙ sym (take-append-drop m.sent (output_of m.contents.history))

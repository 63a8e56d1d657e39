-- The accepted lines, one in front of those that follow. A T line is accepted only while no area stands (33), and after an accepted act one stands:
-- so from the first act on the table is the one that stands in the end, and every act ran under it.
use Rattle.std.specs.Prelude.{Ok}
use Rattle.laws.proofs.{ℕ, ◌≤◌, true, ◌≡◌, refl, sym, ap, subst, ◌∙◌, Bool, ◌&&◌, List, [], ◌∷◌, ◌++◌, arith}
use Rattle.laws.specs.{every}
use Rattle.refusals.specs.{Verdict}
use Rattle.schedules.specs.{schedule6}
use Rattle.table.specs.{is_table}
use Rattle.line_entry.specs.{AreaAct}
use Rattle.holding.specs.{Holding, empty_holding}
use Rattle.step_outcome.specs.{Outcome, placed}
use Rattle.step.specs.{applied, stepped}
use Rattle.statement_format.specs.{texts, statement_of}
use Rattle.book_print.specs.{report_text}
use Rattle.step.proofs.Entered.{step_is}
use Rattle.theorem_accounts.specs.{is_accepted}
use Rattle.theorem_demand_three.specs.{result_of, holding_from, outcomes_from}
use Rattle.theorem_demand_three.proofs.DemandThree.{demand_three}
use Rattle.theorem_running.specs.{enter_each, all_accepted, reports_of, RunAccounted}
use Rattle.theorem_running.proofs.Standing.{act_stands}

-- from a table and a holding on: the table in the end, the acts that were accepted, the statement that they left and what was reported
pub record Follows (own : List ℕ) (holding : Holding) (last : List ℕ) (sent : List AreaAct) (statement reports : List ℕ) : Type 0 where
  pub accepted : all_accepted (outcomes_from last holding (enter_each sent)) ≡ true
  pub left : statement ≡ statement_of (holding_from last holding (enter_each sent))
  pub reported : reports ≡ reports_of (outcomes_from last holding (enter_each sent))
  pub one_table : 1 ≤ holding.count → last ≡ own

-- what was reported, written in another way
pub follows_as : {own : List ℕ} {holding : Holding} {last : List ℕ} {sent : List AreaAct} {statement reports same : List ℕ} → same ≡ reports
    → Follows own holding last sent statement reports → Follows own holding last sent statement same
follows_as {own} {holding} {last} {sent} {statement} e f = subst (λ (l : List ℕ). Follows own holding last sent statement l) (sym e) f

pub none_follow : (own : List ℕ) (holding : Holding) → Follows own holding own [] (statement_of holding) []
unfolding holding_from outcomes_from every reports_of texts
none_follow own holding = record { accepted = refl; left = refl; reported = refl; one_table = λ h. refl }

module _ (own : List ℕ) (holding : Holding) (last : List ℕ) (sent : List AreaAct) (statement reports : List ℕ) where
  -- a T line, which is accepted while no area stands
  pub column_follows : (more : List ℕ) → holding.count ≡ 0 → Follows more holding last sent statement reports → Follows own holding last sent statement reports
  column_follows more none f = record {
    accepted = f.accepted;
    left = f.left;
    reported = f.reported;
    one_table = λ h. absurd (omega arith);
  }

  -- an act that is accepted
  module _ (on : AreaAct) where
    abbrev outcome : Outcome
    outcome = applied own schedule6 holding on

    pub act_follows : (shows : List ℕ) → is_table own ≡ true → outcome.verdict ≡ Ok tt → shows ≡ report_text outcome.report
        → Follows own (placed holding outcome) last sent statement reports → Follows own holding last (on ∷ sent) statement (shows ++ reports)
    unfolding result_of holding_from outcomes_from every reports_of texts
    act_follows shows table e s f = record {
      accepted = ap (λ (o : Outcome). all_accepted (answers o)) same ∙ ap (λ (v : Verdict). is_accepted v && rest) e ∙ f.accepted;
      left = f.left ∙ ap (λ (o : Outcome). statement_of (holding_from last (placed holding o) (enter_each sent))) (sym same);
      reported =
          ap (λ (l : List ℕ). l ++ reports) s ∙ ap (λ (l : List ℕ). report_text outcome.report ++ l) f.reported
          ∙ ap (λ (o : Outcome). reports_of (answers o)) (sym same);
      one_table = λ h. fixed;
    }
      where
        fixed : last ≡ own
        fixed = f.one_table (act_stands holding own on e)

        same : stepped last holding on ≡ outcome
        same = ap (λ (l : List ℕ). stepped l holding on) fixed ∙ sym (step_is own holding on table)

        answers : Outcome → List Outcome
        answers o = o ∷ outcomes_from last (placed holding o) (enter_each sent)

        rest : Bool
        rest = all_accepted (outcomes_from last (placed holding outcome) (enter_each sent))

-- from the empty holding on, this is demand 3 of what was accepted
pub follows_accounted : (own last : List ℕ) (sent : List AreaAct) (statement reports : List ℕ) (n : ℕ)
    → Follows own empty_holding last sent statement reports → RunAccounted last sent statement reports n
follows_accounted own last sent statement reports n f =
    record { accepted = f.accepted; left = f.left; reported = f.reported; demand = demand_three last (enter_each sent) n }

-- What the subtasks' lines put into the two rows. Assumes nothing.
use Rattle.std.proofs.Common.{ℕ, suc, ◌+◌, ◌-◌, ◌≤◌, ◌<◌, ◌≡◌, refl, ◌∙◌, ap, List, map, Bool, false, arith, add-one, le-leb, length, drop, set, length-append}
use Rattle.std.proofs.Common.{leb}
use Rattle.std.proofs.lemmas.Bool.{lt-leb}
use Rattle.std.proofs.lemmas.List.{length-map}
use Rattle.std.proofs.lemmas.List.Edits.{sets}
use Rattle.terms.specs.Texts.{lines}
use Rattle.text.specs.Rest.{line, later}
use Rattle.terms.specs.Readings.{Reading, refuse, graph, need, is_task, time_in, predecessors_in, arrows_into, with_task, task_lines, exit_line}
use Rattle.terms.specs.declared.Refusal.{Refusal}
use Rattle.theory.proofs.Stores.{sets_append}
use Rattle.stg.specs.LinesRead.{hold, TaskIs, Fails, Rows, outcome, OneSubtask, AllSubtasks}
use Rattle.stg.proofs.AddedArrows.{map_hold}
use Rattle.stg.proofs.OneLine.{top_line, rest_line}
use Rattle.terms.specs.declared.Refusal.TheVariants.{TaskLine, TimeLarge}

rows : (ts ts' : List ℕ) (ar ar' : List (List ℕ)) (j j' a a' : ℕ) → ts ≡ ts' → ar ≡ ar' → j ≡ j' → a ≡ a' → Rows ts ar j a ≡ Rows ts' ar' j' a'
rows ts ts' ar ar' j j' a a' p q r s = cc

-- one subtask's time and arrows
outcome_join : (ts : List ℕ) (ar : List (List ℕ)) (j a t : ℕ) (bs : List (List ℕ)) (r : Reading)
    → outcome ts ar j a (with_task t bs r) ≡ outcome (set ts j t) (sets ar a (map hold bs)) (j + 1) (a + length bs) r
unfolding with_task
outcome_join ts ar j a t bs (refuse k) = refl
outcome_join ts ar j a t bs (graph us cs) =
    rows _ _ _ _ _ _ _ _
    (rw add-one)
    (rw (map_hold bs cs, sets_append ar a (map hold bs) (map hold cs), length-map bs hold))
    (omega arith)
    (rw (length-append bs cs) (omega arith))

module _ (text : List ℕ) (at j : ℕ) where
  -- a subtask's line
  task_line : (k : ℕ)
      → task_lines (j + 1) (suc k) (lines (drop at text)) ≡ need (is_task (j + 1) (line (drop at text))) TaskLine
      (need (leb (time_in (line (drop at text))) 65535) TimeLarge
      (with_task (time_in (line (drop at text))) (arrows_into (j + 1) (predecessors_in (line (drop at text)))) (task_lines (j + 1 + 1) k (later (drop at text)))))
  unfolding task_lines
  task_line k = rw (top_line (drop at text), rest_line (drop at text))

  pub subtask_bad : is_task (j + 1) (line (drop at text)) ≡ false → (k : ℕ) → task_lines (j + 1) (suc k) (lines (drop at text)) ≡ refuse TaskLine
  subtask_bad e k = task_line k ∙ rw e

  module _ {ar : List (List ℕ)} {a t : ℕ} {below : Bool} {b e : ℕ} {ar' : List (List ℕ)} (h : TaskIs text at (j + 1) ar a t below b e ar') where
    pub subtask_long : 65535 < t → (k : ℕ) → task_lines (j + 1) (suc k) (lines (drop at text)) ≡ refuse TimeLarge
    subtask_long l k = task_line k ∙ rw (h.shaped, h.time, lt-leb t 65535 l)

    task_joins : t ≤ 65535 → (k : ℕ)
        → task_lines (j + 1) (suc k) (lines (drop at text)) ≡ with_task t (arrows_into (j + 1) (predecessors_in (line (drop at text))))
        (task_lines (j + 1 + 1) k (lines (drop e text)))
    task_joins l k = task_line k ∙ rw (h.shaped, h.time, le-leb t 65535 l, h.gives.next)

    pub subtask_is : (ts : List ℕ) (u : ℕ) → t ≤ 65535 → u ≡ t → OneSubtask text at j a ts ar b e (set ts j u) ar'
    subtask_is ts u l q =
        record {
          does = λ k.
              ap (λ (r : Reading). outcome ts ar j a r) (task_joins l k)
              ∙ outcome_join ts ar j a t (arrows_into (j + 1) (predecessors_in (line (drop at text)))) (task_lines (j + 1 + 1) k (lines (drop e text)))
              ∙ rw (h.gives.adds.counts, h.gives.adds.holds, q);
          inside = h.gives.inside;
          few = h.gives.few;
        }

tasks_none : (i : ℕ) (ls : List (List ℕ)) → task_lines i 0 ls ≡ exit_line i ls
unfolding task_lines
tasks_none i ls = refl

-- ---- all subtasks' lines

-- the lines from here on leave the same as those from at on
pub record SubtasksLeft (text : List ℕ) (at n : ℕ) (ts : List ℕ) (ar : List (List ℕ)) (here a j : ℕ) (ts' : List ℕ) (ar' : List (List ℕ)) : Type 0 where
  pub does : outcome ts ar 0 0 (task_lines 1 n (lines (drop at text))) ≡ outcome ts' ar' j a (task_lines (j + 1) (n - j) (lines (drop here text)))
  pub inside : here ≤ length text
  pub few : a ≤ here
  pub upto : j ≤ n

module _ {text : List ℕ} {at n : ℕ} {ts : List ℕ} {ar : List (List ℕ)} {here a j : ℕ} {ts' : List ℕ} {ar' : List (List ℕ)}
    (g : SubtasksLeft text at n ts ar here a j ts' ar') where
  one_left : j < n → n - j ≡ suc (n - (j + 1))
  one_left h = omega arith

  pub left_bad : (c : Refusal) → j < n → ((k : ℕ) → task_lines (j + 1) (suc k) (lines (drop here text)) ≡ refuse c)
      → outcome ts ar 0 0 (task_lines 1 n (lines (drop at text))) ≡ Fails c
  left_bad c h f = g.does ∙ rw (one_left h, f)

  pub left_end : n ≤ j → AllSubtasks text at n ts ar a here ts' ar'
  left_end h = record { does = g.does ∙ end; inside = g.inside }
    where
      same : j ≡ n
      same = omega arith

      nothing : n - n ≡ 0
      nothing = omega arith

      end : outcome ts' ar' j a (task_lines (j + 1) (n - j) (lines (drop here text))) ≡ outcome ts' ar' n a (exit_line (n + 1) (lines (drop here text)))
      end = rw (same, nothing) (ap (outcome ts' ar' n a) (tasks_none (n + 1) (lines (drop here text))))

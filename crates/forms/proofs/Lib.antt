pub mod PlanEnds

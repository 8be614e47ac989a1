-- Laws of `src/plan.rt`.
pub mod PlanOfCascade
pub mod PlanParts
pub mod PlanSteps
pub mod PlannedRows

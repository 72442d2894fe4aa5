mod Counting
mod Firsts
mod Marking
mod RankSteps
mod Ranking
mod Rising
mod TagOrders
mod TagSteps

mod PutMarks
mod Reports
mod StoredMarks
